-- `answering::cut` meets its contract. Assumes nothing.
use native.Mathlib.Omega.{arith}
use Rattle.answering.proofs.Cutting.{cut_none, cut_on}
use Rattle.answering.proofs.cut.Goals as goal

pub loop-left-init : goal.loop-left-init
loop-left-init c =
    let p = c.requires in
    record { begun = p.start_bound.0; from = omega arith; within = omega (arith, p.start_bound.1.0); slow = omega (arith, p.fill_value); fits = omega (arith, p.fill_value); known = p.known; cut = cut_none }

pub next-left-requires : goal.next-left-requires
next-left-requires c =
    let l = c.loop-left.invariant in
    record { known = l.known; fill_in_bounds = omega arith; start_bound = (l.begun, (c.loop-left-test.true, c.requires.start_bound.1.1)) }

pub loop-left-smaller : goal.loop-left-smaller
loop-left-smaller c = omega (arith, c.next-left.ensures.start_bound_2.1, c.loop-left-test.true)

pub loop-left-preserved : goal.loop-left-preserved
loop-left-preserved c =
    let l = c.loop-left.invariant in
    let n = c.next-left.ensures in
    let e = n.start_bound_2.1 in
    record { begun = n.start_bound_2.0; from = omega (arith, e); within = omega (arith, e); slow = omega (arith, e, n.fill_bound.0); fits = omega (arith, n.fill_bound.0); known = n.fill_bound.1; cut = cut_on l.cut n.cut }

pub returns-else-left-le65514 : goal.returns-else-left-le65514
returns-else-left-le65514 c =
    let l = c.loop-left.invariant in
    record { start_bound_2 = (l.begun, (omega (arith, c.if-left-le65514.false), l.within)); fill_bound = (l.fits, l.known); cut = l.cut }

pub returns-after-loop-left : goal.returns-after-loop-left
returns-after-loop-left c =
    let l = c.loop-left.invariant in
    record { start_bound_2 = (l.begun, (omega (arith, c.loop-left-test.false, c.requires.start_bound.1.0), l.within)); fill_bound = (l.fits, l.known); cut = l.cut }
