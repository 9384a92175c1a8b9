-- `listed::lines` meets its contract. Assumes nothing.
use mathlib.Core.Path.{refl}
use native.Mathlib.Omega.{arith}
use Rattle.listed.specs.Slots.{line_at, lines_of}
use Rattle.listed.proofs.Holding.{each_next, each_end}
use Rattle.listed.proofs.lines.Goals as goal

pub loop-i-init : goal.loop-i-init
unfolding lines_of
loop-i-init c = (omega arith, refl)

pub loop-i-preserved : goal.loop-i-preserved
loop-i-preserved c =
    let l = c.loop-i in
    let g = c.line-at in
    (omega (arith, g.ensures.upper_bound, l.invariant.0), each_next (line_at c.args.area.now) (lines_of c.args.area.now) l.i l.out l.at l.invariant.1 c.loop-i-test.true _ g.result g.ensures.out_after)

pub returns-clause-out_after : goal.returns-clause-out_after
returns-clause-out_after c =
    let l = c.loop-i in
    each_end (line_at c.args.area.now) (lines_of c.args.area.now) l.i l.out l.at l.invariant.1 (omega arith)
