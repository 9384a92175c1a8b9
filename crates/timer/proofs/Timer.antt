-- The due time after a rejection, from what the tests found. Assumes nothing.
use mathlib.Core.Path.{◌≡◌, refl, sym, ap, ◌∙◌}
use mathlib.Core.Bool.{Bool, true, false, ◌&&◌, false≢true}
use Rattle.rules.proofs.Checks.{and_left, and_right}
use mathlib.Core.List.{List}
use Prim.Native.Nat.{ℕ, ◌+◌, ◌*◌, ◌%◌, ◌^◌, ◌≤◌, ◌<◌}
use native.Mathlib.Nat.{mod-lt}
use native.Mathlib.Omega.{arith}
use lib.Dec.{ltb, eqb}
use lib.ListN.{get_or}
use Rattle.mixing.specs.Mixing.{drawn}
use Rattle.rules.specs.declared.Outcome.TheVariants.{Rejected as rejected}
use Rattle.rules.specs.Tables.{highest_time, permanent, delay_for}
use Rattle.rules.specs.Rules.{due_on}
use Rattle.buffer.specs.Places.{QUOTIENT, REMAINDER, PARAMETERS, DUE}
use Rattle.buffer.specs.Layout.{facts_of}
use Rattle.buffer.specs.Good.{good, parameters}
use Rattle.buffer.proofs.Goodness.{each_at_most}
use Rattle.buffer.proofs.Sane.{good_sane}

-- ---- The due time

-- T1 is a byte
pub T1_low : (b : List ℕ) → good b ≡ true → get_or b (PARAMETERS + 1) 0 ≤ 255
unfolding facts_of
T1_low b g = each_at_most 255 (parameters (facts_of b).opening) (good_sane b g).opening.parameters 1

-- it stays where the rejection is not permanent, or T1 may not begin to run
module _ (b : List ℕ) (t column cause : ℕ) {p r : Bool} (e : p ≡ permanent column cause)
    (f : r ≡ ((ltb 0 (facts_of b).opening.T1 && eqb (facts_of b).opening.rpm 1) && eqb (facts_of b).due 0)) where
  pub stays : (p && r) ≡ false → get_or b DUE 0 ≡ due_on t (rejected cause 0 column) (facts_of b)
  unfolding due_on facts_of
  stays h = go p r e f h
    where
      go : (p r : Bool) → p ≡ permanent column cause → r ≡ ((ltb 0 (facts_of b).opening.T1 && eqb (facts_of b).opening.rpm 1) && eqb (facts_of b).due 0) → (p && r) ≡ false
          → get_or b DUE 0 ≡ due_on t (rejected cause 0 column) (facts_of b)
      go true true e f h = absurd (false≢true (sym h))
      go true false e f h = rw (← e, ← f) refl
      go false r e f h = rw (← e) refl

  -- else it is set, x being drawn from the IMSI m
  pub begun : (p && r) ≡ true → {d x m : ℕ} → m ≡ get_or b QUOTIENT 0 * 2 ^ 32 + get_or b REMAINDER 0 → x ≡ drawn m 0
      → d ≡ 324 * get_or b (PARAMETERS + 1) 0 + x % (72 * get_or b (PARAMETERS + 1) 0 + 1) → t + d ≡ due_on t (rejected cause 0 column) (facts_of b)
  unfolding due_on facts_of delay_for
  begun h k l n =
      let T1 = get_or b (PARAMETERS + 1) 0 in
      rw (sym e ∙ and_left p r h, sym f ∙ and_right p r h)
      (ap (λ (d : ℕ). t + d) n ∙ (λ j. t + (324 * T1 + l j % (72 * T1 + 1))) ∙ (λ j. t + (324 * T1 + drawn (k j) 0 % (72 * T1 + 1))))

-- and fits a place
pub due_fits : (b : List ℕ) → good b ≡ true → (t x : ℕ) → t ≤ highest_time → {d : ℕ} → d ≡ 324 * get_or b (PARAMETERS + 1) 0 + x % (72 * get_or b (PARAMETERS + 1) 0 + 1)
    → t + d < 4294967296
due_fits b g t x late e =
    let T1 = get_or b (PARAMETERS + 1) 0 in
    omega (arith, e, T1_low b g, mod-lt x {m = 72 * T1 + 1} (omega arith))
