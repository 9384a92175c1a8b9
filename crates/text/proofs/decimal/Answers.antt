-- `text::decimal` meets its contract. Assumes nothing.
use mathlib.Core.Path.{◌≡◌, refl, sym, ap, ◌∙◌}
use native.Mathlib.Omega.{arith}
use lib.ListN.{length}
use Rattle.text.specs.Number.{digit_of}
use Rattle.text.proofs.NumberLaws.{num_end, digits_end, num_other, num_over, num_go, digits_other, digits_over, digits_go}
use Rattle.text.proofs.decimal.Goals as goal
use Rattle.text.proofs.decimal.Goals.{then-most-d-via-then-most-d, then-most-d-via-else-most-d+then-most-d-2}
use Prim.Native.Nat.{◌+◌, ◌*◌, ◌<◌}

pub returns-in_err-get : goal.returns-in_err-get
returns-in_err-get c = rw c.from_residual.ensures (sym (num_end _ _ _ c.in_err-get.ensures.lookup.3), omega arith, omega arith)

pub returns-in_err-first : goal.returns-in_err-first
returns-in_err-first c =
    let h = c.in_ok-get.ensures.lookup.3 in
    let e = ap digit_of (sym (h.1 0)) ∙ c.in_err-first.ensures in
    rw c.from_residual-in_err-first.ensures (sym (num_other _ _ _ _ h.0 refl (omega arith)), omega arith, omega arith)

pub returns-then-most-first : goal.returns-then-most-first
returns-then-most-first c =
    let h = c.in_ok-get.ensures.lookup.3 in
    let e = c.in_ok-first.ensures.0 ∙ ap digit_of (h.1 0) in
    (sym (num_over _ _ _ _ h.0 e c.in_ok-first.ensures.1 (λ z. omega arith) c.if-most-first.true), omega arith, omega arith)

pub loop-next-init : goal.loop-next-init
loop-next-init c =
    let h = c.in_ok-get.ensures.lookup.3 in
    let e = c.in_ok-first.ensures.0 ∙ ap digit_of (h.1 0) in
    (c.if-most-first.false, sym (num_go _ _ _ _ h.0 e c.in_ok-first.ensures.1 (λ z. omega arith) c.if-most-first.false))

pub returns-in_default : goal.returns-in_default
returns-in_default c = let d = c.in_default.ensures in (sym (digits_other _ _ _ _ c.loop-next-test.true refl _ (omega arith)) ∙ c.loop-next.invariant.1, omega arith, omega arith)

pub returns-then-most-d : goal.returns-then-most-d
returns-then-most-d c =
    let d = c.in-Some.ensures in
    let over : c.args.most < c.loop-next.value * 10 + c.in-Some.d = elim c.then-most-d.branch [ then-most-d-via-then-most-d w ↦ omega arith | then-most-d-via-else-most-d+then-most-d-2 w ↦ omega arith ] in
    (sym (digits_over _ _ _ _ c.loop-next-test.true d.0 _ d.1 over) ∙ c.loop-next.invariant.1, omega arith, omega arith)

pub loop-next-preserved : goal.loop-next-preserved
loop-next-preserved c = let d = c.in-Some.ensures in (omega arith, sym (digits_go _ _ _ _ c.loop-next-test.true d.0 _ d.1 (omega arith)) ∙ c.loop-next.invariant.1)

pub returns : goal.returns
returns c =
    let h = c.in_ok-get.ensures.lookup.3.0 in
    let e : length c.args.line.now ≡ c.loop-next.next = omega arith in
    (rw e (sym (digits_end _ _ _ _ c.loop-next-test.false) ∙ c.loop-next.invariant.1), omega arith, omega arith)
