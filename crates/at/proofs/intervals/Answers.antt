-- `at::intervals` meets its contract. Assumes nothing.
use Prim.Native.Nat.{ℕ, suc, ◌+◌, ◌-◌}
use mathlib.Core.Path.{sym, ap, ◌∙◌}
use mathlib.Core.List.{List, [], ◌∷◌, ◌++◌}
use native.Mathlib.Omega.{arith}
use lib.ListN.{take, drop, set}
use lib.Seq.{drop-drop}
use Rattle.at.specs.Order.{some_listed}
use Rattle.at.specs.Lines.{ints}
use Rattle.at.proofs.IntsLaws.{ints_zero, ints_none, ints_low, ints_last, ints_other, ints_more, whole, take_more, drop_more, length_more}
use Rattle.at.proofs.intervals.Goals as goal

pub returns-in_err-value : goal.returns-in_err-value
returns-in_err-value c =
    let b = c.loop-n in
    rw c.from_residual.ensures (ap some_listed (sym (ints_none _ _ _ _ (sym c.in_err-value.ensures.0)) ∙ b.invariant.2 (suc (9 - b.n)) (omega arith)))

pub returns-then-value-last : goal.returns-then-value-last
returns-then-value-last c =
    let b = c.loop-n in
    ap some_listed (sym (ints_low _ _ _ _ _ _ (sym c.in_ok-value.ensures.0) c.if-value-last.true) ∙ b.invariant.2 (suc (9 - b.n)) (omega arith))

pub returns-then-ends : goal.returns-then-ends
returns-then-ends c =
    let b = c.loop-n in
    let v = c.in_ok-value.field-0.value in
    let len = length_more b.list b.n b.invariant.0 b.invariant.1 v (omega arith) in
    let unused = drop_more b.list b.n b.invariant.0 b.invariant.1 v (omega arith) in
    sym (whole (set b.list b.n v) (b.n + 1) len unused (omega arith) (omega arith))
    ∙ ap some_listed (take_more b.list b.n b.invariant.0 b.invariant.1 v (omega arith)
    ∙ (sym (ints_last _ _ _ _ _ _ (sym c.in_ok-value.ensures.0) c.if-value-last.false (sym c.if-ends.ensures))
    ∙ b.invariant.2 (suc (9 - b.n)) (omega arith)))

pub returns-then-not-starts : goal.returns-then-not-starts
returns-then-not-starts c =
    let b = c.loop-n in
    ap some_listed (sym (ints_other _ _ _ _ _ _ (sym c.in_ok-value.ensures.0) c.if-value-last.false (sym c.if-ends.ensures) (sym c.if-not-starts.ensures)) ∙ b.invariant.2 (suc (9 - b.n)) (omega arith))

pub loop-n-preserved : goal.loop-n-preserved
loop-n-preserved c =
    let b = c.loop-n in
    let v = c.in_ok-value.field-0.value in
    let next = c.in_ok-value.field-0.next in
    let line = c.args.line.now in (
      length_more b.list b.n b.invariant.0 b.invariant.1 v (omega arith),
      drop_more b.list b.n b.invariant.0 b.invariant.1 v (omega arith),
      λ k e.
          ap (ints k (drop (next + 1) line) v) (take_more b.list b.n b.invariant.0 b.invariant.1 v (omega arith))
          ∙ (ap (λ (r : List ℕ). ints k r v (take b.n b.list ++ (v ∷ []))) (sym (drop-drop 1 next line))
          ∙ (sym (ints_more k _ _ _ _ _ (sym c.in_ok-value.ensures.0) c.if-value-last.false (sym c.if-ends.ensures) (sym c.if-not-starts.ensures))
          ∙ b.invariant.2 (suc k) (omega arith))),
    )

pub returns : goal.returns
returns c = ap some_listed (sym (ints_zero _ _ _) ∙ c.loop-n.invariant.2 0 (omega arith))
