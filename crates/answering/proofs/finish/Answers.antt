-- `answering::finish` meets its contract. Assumes nothing.
use mathlib.Core.Path.{sym, ◌∙◌}
use native.Mathlib.Omega.{arith}
use Rattle.answering.proofs.Cutting.{last_none, last_line}
use Rattle.answering.proofs.finish.Goals as goal

pub returns-then-c : goal.returns-then-c
returns-then-c c =
    let p = c.args.c in
    let e = last_none p.skip p.held c.args.buf.now c.args.state.now c.requires.held_in_bounds c.if-c.true in
    record { upper_bound = (omega arith, sym e.0); state_after = sym e.1 }

pub returns : goal.returns
returns c =
    let p = c.args.c in
    let e = last_line p.skip p.held c.args.buf.now c.args.state.now c.requires.held_in_bounds c.if-c.false in
    let o = c.one.ensures in
    record { upper_bound = (omega (arith, o.fill_bound.0), o.out_after ∙ sym e.0); state_after = o.state_after ∙ sym e.1 }
