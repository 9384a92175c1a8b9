-- A number above 0, or none: where it is made, and what it tells; and a refusal that a check gives.
-- Assumes nothing.
use mathlib.Core.Path.{◌≡◌, refl, ap, ◌∙◌}
use mathlib.Core.Bool.{true}
use Prim.Native.Nat.{ℕ, suc, zero}
use native.Mathlib.Omega.{arith}
use borrow.Author.Tests.{ne_eqb}
use Rattle.std.specs.Prelude.{Some, None, Result, Err}
use Rattle.std.specs.Result.{IsErrAnd}
use Rattle.std.proofs.lemmas.Result.{err_from_is_err_and}
use Rattle.rules.specs.Calls.{Call}
use Rattle.rules.specs.State.{State, Facts}
use Rattle.rules.specs.Rules.{refusal, ruling, refused}
use Rattle.rules.proofs.Checks.{refusal_listed}
use Rattle.refusals.specs.declared.Refusal.{Refusal}
use Rattle.refusals.specs.declared.Refusal.TheVariants.{Buffer, Range, Time, Standing, Line, Full, Image}
use Rattle.refusals.specs.Refusals.{number_of, refused_as, above_zero}

-- none stands for 0, and nothing else
pub none_zero : (n : ℕ) → n ≡ 0 → None ≡ above_zero n
none_zero n e = rw e refl

pub zero_none : (n : ℕ) → None ≡ above_zero n → n ≡ 0
zero_none zero e = refl
zero_none (suc n) e = cc

-- a number above 0 stands for itself
pub some_above : (n m : ℕ) → m ≡ n → (m ≡ 0 → ⊥) → Some m ≡ above_zero n
some_above n m e h = rw (← e) (go m h)
  where
    go : (k : ℕ) → (k ≡ 0 → ⊥) → Some k ≡ above_zero k
    go zero f = absurd (f refl)
    go (suc k) f = refl

pub above_some : (n m : ℕ) → Some m ≡ above_zero n → (m ≡ n) × (m ≡ 0 → ⊥)
above_some zero m e = cc
above_some (suc n) m e = go (some_same e)
  where
    some_same : {a b : ℕ} → Some a ≡ Some b → a ≡ b
    some_same {a} {b} p = cc

    go : m ≡ suc n → (m ≡ suc n) × (m ≡ 0 → ⊥)
    go p = (p, λ z. omega (arith, p, z))

-- no refusal has the number 0
pub never_zero : (why : Refusal) → number_of why ≡ 0 → ⊥
never_zero Buffer e = omega (arith, e)
never_zero Range e = omega (arith, e)
never_zero Time e = omega (arith, e)
never_zero Standing e = omega (arith, e)
never_zero Line e = omega (arith, e)
never_zero Full e = omega (arith, e)
never_zero Image e = omega (arith, e)

-- a call whose first failing check is known: what it is told is the rules' answer, and refuses
pub err_told : (w : State) (c : Call) (why : Refusal) → number_of why ≡ refusal w.facts c → refused_as why ≡ ruling w c
unfolding ruling
err_told w c why e = rw (← e, ne_eqb (number_of why) 0 (never_zero why))

pub err_refused : (f : Facts) (c : Call) (why : Refusal) → number_of why ≡ refusal f c → refused (refused_as why) ≡ true
err_refused f c why e = let h = never_zero why in rw e (refusal_listed f c (rw e at h))

-- what a `?` passes on is the refusal itself
pub passed_on : {A : Type 0} (r : Result A Refusal) (why : Refusal) → IsErrAnd r (λ y. y ≡ why) → r ≡ Err why
passed_on r why h = let p = err_from_is_err_and r h in p.1 ∙ ap Err p.2
