-- The actions of causes by their entries, and the moods. Assumes nothing.
use mathlib.Core.Path.{◌≡◌, refl, sym}
use mathlib.Core.Bool.{true, cond, ◌&&◌, false≢true}
use mathlib.Core.Logic.{◌≢◌}
use Prim.Native.Nat.{ℕ, ◌-◌, ◌≤◌}
use native.Mathlib.Omega.{arith}
use lib.Dec.{ltb, leb, eqb}
use lib.ListN.{get_or}
use borrow.Author.Tests.{leb-true, eqb-true, ne_eqb}
use Rattle.rules.specs.Causes.{Action, back_off, both_back_off, re_attach, other_network, as_3GPP, not_same_PLMN, not_same_area, not_same_cell, reactivate, re_establish, printed, number_of, of_both, action, both}
use Rattle.rules.proofs.Checks.{and_left, and_right}
use Rattle.causes.specs.Tables.{plain, spelled, numbers, means}

-- ---- The actions

-- what an entry tells
abbrev pub told : ℕ → ℕ → ℕ
told e second = cond (eqb e plain) 23 (cond (ltb 57 e) 20 (cond (eqb e 50) (cond (eqb second 1) 22 20) (e - 28)))

tells : (x : Action) (second : ℕ) → told (spelled x) second ≡ number_of x second
tells back_off second = refl
tells both_back_off second = refl
tells re_attach second = refl
tells other_network second = refl
tells as_3GPP second = refl
tells not_same_PLMN second = refl
tells not_same_area second = refl
tells not_same_cell second = refl
tells reactivate second = refl
tells re_establish second = refl

pub action_told : (column cause second : ℕ) → action column cause second ≡ told (spelled (printed column cause).action) second
unfolding action
action_told column cause second = sym (tells (printed column cause).action second)

pub tells_both : (x : Action) → eqb (spelled x) 100 ≡ of_both x
tells_both back_off = refl
tells_both both_back_off = refl
tells_both re_attach = refl
tells_both other_network = refl
tells_both as_3GPP = refl
tells_both not_same_PLMN = refl
tells_both not_same_area = refl
tells_both not_same_cell = refl
tells_both reactivate = refl
tells_both re_establish = refl

-- an entry is no less than `.`
pub entry_low : (x : Action) → 46 ≤ spelled x
entry_low back_off = omega arith
entry_low both_back_off = omega arith
entry_low re_attach = omega arith
entry_low other_network = omega arith
entry_low as_3GPP = omega arith
entry_low not_same_PLMN = omega arith
entry_low not_same_area = omega arith
entry_low not_same_cell = omega arith
entry_low reactivate = omega arith
entry_low re_establish = omega arith

-- ---- The numbers of actions

-- where both registrations back off it is 20
number_both : (x : Action) (second : ℕ) → of_both x ≡ true → number_of x second ≡ 20
number_both back_off second e = refl
number_both both_back_off second e = refl
number_both re_attach second e = absurd (false≢true e)
number_both other_network second e = absurd (false≢true e)
number_both as_3GPP second e = absurd (false≢true e)
number_both not_same_PLMN second e = absurd (false≢true e)
number_both not_same_area second e = absurd (false≢true e)
number_both not_same_cell second e = absurd (false≢true e)
number_both reactivate second e = absurd (false≢true e)
number_both re_establish second e = absurd (false≢true e)

pub action_both : (column cause second : ℕ) → both column cause ≡ true → action column cause second ≡ 20
unfolding action both
action_both column cause second = number_both (printed column cause).action second

-- ---- The error numbers

pub record Means (e n : ℕ) : Type 0 where
  pub low : 97 ≤ e
  pub high : e ≤ 121
  pub is : get_or numbers (e - 97) 0 ≡ n

pub means_none : (e n : ℕ) → e ≡ plain → means e n ≡ true → n ≡ 0
unfolding means
means_none e n h m = eqb-true n 0 (rw h at m)

pub means_one : (e n : ℕ) → e ≢ plain → means e n ≡ true → Means e n
unfolding means
means_one e n h m =
    let t = rw (ne_eqb e plain h) at m in
    let range = and_left (leb 97 e && leb e 121) _ t in
    record {
      low = leb-true 97 e (and_left (leb 97 e) _ range);
      high = leb-true e 121 (and_right (leb 97 e) _ range);
      is = eqb-true _ n (and_right (leb 97 e && leb e 121) _ t);
    }
