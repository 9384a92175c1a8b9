-- `command::show` meets its contract. Assumes nothing.
use native.Mathlib.Omega.{arith}
use Rattle.buffer.specs.Layout.{facts_of}
use Rattle.command.proofs.Lined.{both_parts, nfm_flag, start_flag}
use borrow.Author.Rules.{rules}
use Rattle.command.proofs.show.Goals as goal

pub overflow_cast-s : goal.overflow_cast-s
overflow_cast-s c = omega (arith, nfm_flag c.args.s.now c.requires.s_value)

pub overflow_cast-s-2 : goal.overflow_cast-s-2
overflow_cast-s-2 c = omega (arith, start_flag c.args.s.now c.requires.s_value)

pub told-requires : goal.told-requires
told-requires c = record { in_bounds = search rules; a_bound = (nfm_flag c.args.s.now c.requires.s_value, start_flag c.args.s.now c.requires.s_value) }

pub returns : goal.returns
unfolding facts_of
returns c =
    let f = facts_of c.args.s.now in
    let e = both_parts c.args.out.now f.mode.nfm f.mode.start (omega (arith, c.requires.in_bounds)) in
    cc e
