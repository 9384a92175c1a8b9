-- The reading of a trace line, step by step, at a place of it. Assumes nothing.
use Prim.Native.Nat.{ℕ, suc, ◌+◌, ◌≤◌, ◌<◌}
use mathlib.Core.Path.{◌≡◌, refl, sym, ◌∙◌}
use mathlib.Core.Bool.{true, false}
use mathlib.Core.List.{List, [], ◌∷◌, ◌++◌}
use native.Mathlib.Numerals.{add-one}
use lib.Dec.{eqb, ltb}
use borrow.Author.Tests.{ltb-true, ltb-false}
use lib.ListN.{length, get_or, take, drop, set, drop_of_length-le}
use lib.Seq.{drop-cons, drop-drop, take-suc-set}
use Rattle.text.proofs.Choice.{cond_by, absurd_bool}
use Rattle.text.specs.Number.{got, none, num}
use Rattle.std.specs.Prelude.{Option, Some, None, MatchOption}
use Rattle.std.specs.Option.{option_eq}
use Rattle.std.proofs.Common.{Bor}
use Rattle.rows.specs.Rows.{space, begins, ended, field, row, no_row, numbers, fields}

module _ (l : List ℕ) (i : ℕ) where
  pub begins_end : (x : ℕ) → length l ≤ i → begins x (drop i l) ≡ false
  unfolding begins
  begins_end x h = rw (drop_of_length-le l h)

  pub begins_at : (x : ℕ) → i < length l → begins x (drop i l) ≡ eqb (get_or l i 0) x
  unfolding begins
  begins_at x h = rw (drop-cons l i 0 h)

  pub ended_end : length l ≤ i → ended (drop i l) ≡ true
  unfolding ended
  ended_end h = rw (drop_of_length-le l h)

  pub ended_not : i < length l → ended (drop i l) ≡ false
  unfolding ended
  ended_not h = rw (drop-cons l i 0 h)

  pub field_none : (most : ℕ) → begins space (drop i l) ≡ false → field most (drop i l) ≡ none
  unfolding field
  field_none most e = rw e

  pub field_some : (most : ℕ) → begins space (drop i l) ≡ true → field most (drop i l) ≡ num most (drop (i + 1) l)
  unfolding field
  field_some most e = rw (e, drop-drop 1 i l)

  pub fields_none : (sep most k : ℕ) → begins space (drop i l) ≡ false → fields sep most k (drop i l) ≡ no_row
  unfolding fields
  fields_none sep most k e = rw e

  pub fields_some : (sep most k : ℕ) → begins space (drop i l) ≡ true → fields sep most k (drop i l) ≡ numbers sep most k (drop (i + 1) l) []
  unfolding fields
  fields_some sep most k e = rw (e, drop-drop 1 i l)

module _ (sep most : ℕ) (l done : List ℕ) where
  pub numbers_full : numbers sep most 0 l done ≡ no_row
  unfolding numbers
  numbers_full = refl

  module _ (k : ℕ) where
    pub numbers_none : num most l ≡ none → numbers sep most (suc k) l done ≡ no_row
    unfolding numbers
    numbers_none e = rw e

    module _ (v : ℕ) (r : List ℕ) (e : num most l ≡ got v r) where
      pub numbers_last : begins sep r ≡ false → numbers sep most (suc k) l done ≡ row (done ++ (v ∷ [])) r
      unfolding numbers
      numbers_last p = rw (e, p)

      pub numbers_more : begins sep r ≡ true → numbers sep most (suc k) l done ≡ numbers sep most k (drop 1 r) (done ++ (v ∷ []))
      unfolding numbers
      numbers_more p = rw (e, p)

-- a number stored after the first n
pub take_more : (xs : List ℕ) (n v : ℕ) → n < length xs → take (n + 1) (set xs n v) ≡ take n xs ++ (v ∷ [])
take_more xs n v h = rw (add-one, take-suc-set xs n v h)

-- by whether m is below n
by_lt : {P : Type 0} (m n : ℕ) → (m < n → P) → (n ≤ m → P) → P
by_lt {P} m n f g = cond_by (λ (_ : ℕ). P) (ltb m n) {x = 0} {y = 0} (λ e. f (ltb-true m n e)) (λ e. g (ltb-false m n e))

-- a place where a byte stands is inside the line
pub begins_place : (x : ℕ) (l : List ℕ) (i : ℕ) → begins x (drop i l) ≡ true → i < length l
begins_place x l i e = by_lt i (length l) (λ h. h) (λ h. absurd_bool (sym (begins_end l i x h) ∙ e))

-- the byte that is looked up at a place, beside x
pub looked_up : (x : ℕ) (l : List ℕ) (i : ℕ) (r : Option (Bor ℕ)) (y : Bor ℕ) → MatchOption r (length l ≤ i) (λ b. (i < length l) × ((d : ℕ) → b.now ≡ get_or l i d)) → y.now ≡ x
    → option_eq (λ a b. eqb a.now b.now) r (Some y) ≡ begins x (drop i l)
looked_up x l i None y h e = sym (begins_end l i x h)
looked_up x l i (Some b) y h e = rw (begins_at l i x h.0, ← e, h.1 0)
