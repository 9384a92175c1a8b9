-- `trace::all` meets its contract: what the rest leaves, after each cut, is what the whole leaves.
-- Assumes nothing.
use mathlib.Core.Path.{refl, sym, ◌∙◌}
use mathlib.Core.Bool.{false≢true}
use native.Mathlib.Omega.{arith}
use Rattle.trace.proofs.all.Goals as goal

pub loop-left-init : goal.loop-left-init
loop-left-init c =
    let p = c.requires in
    record { begun = omega arith; within = p.held_le_end.0; empty = refl; known = p.known; leaves = λ later. refl }

pub cut-cut-requires : goal.cut-cut-requires
cut-cut-requires c =
    let l = c.loop-left.invariant in
    record { known = l.known; fill_value = l.empty; start_bound = (l.begun, (c.loop-left-test.true, c.requires.held_le_end.1)) }

pub loop-left-smaller : goal.loop-left-smaller
loop-left-smaller c = let n = c.cut-cut.ensures.start_bound_2 in omega (arith, n.1.0, n.1.1)

pub loop-left-preserved : goal.loop-left-preserved
loop-left-preserved c =
    let n = c.cut-cut.ensures in
    let l = c.loop-left.invariant in
    record { begun = n.start_bound_2.0; within = n.start_bound_2.1.1; empty = refl; known = n.fill_bound.1; leaves = λ later. n.cut.left later ∙ l.leaves later }

pub returns-else-left : goal.returns-else-left
returns-else-left c =
    let l = c.loop-left.invariant in
    record { start_bound = (l.begun, (l.within, l.known)); answered = record { left = λ later. l.leaves later; whole = λ e. absurd (false≢true (sym c.if-left.false ∙ e)) } }

pub returns-after-loop-left : goal.returns-after-loop-left
returns-after-loop-left c =
    let l = c.loop-left.invariant in
    record { start_bound = (l.begun, (l.within, l.known)); answered = record { left = λ later. l.leaves later; whole = λ e. omega (arith, l.within, c.loop-left-test.false) } }
