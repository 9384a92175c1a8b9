-- A table of entries that agrees with the rows of a column: all of it is tested at once, by
-- computing, and then holds of every cause. Assumes nothing.
use mathlib.Core.Path.{◌≡◌, refl, ◌∙◌}
use mathlib.Core.Bool.{Bool, true, false, cond, ◌&&◌, ◌||◌}
use mathlib.Core.List.{List, [], ◌∷◌}
use Prim.Native.Nat.{ℕ, zero, suc, ◌+◌, ◌≤◌, ◌<◌}
use native.Mathlib.Nat.{add-zero, zero-add, add-suc, suc-add, le_of_suc-le-suc, not-suc-le-zero}
use native.Mathlib.Omega.{arith}
use lib.Dec.{ltb, eqb}
use lib.ListN.{length, get_or, get_or-eq_default}
use borrow.Author.Tests.{ltb-true, ltb-false, eqb-true, eqb-false}
use Rattle.rules.specs.Causes.{Row, row, as_3GPP, none, columns, row_of, printed}
use Rattle.rules.proofs.Checks.{and_left, and_right}
use Rattle.causes.specs.Tables.{plain, entry_at, spelled, means}

-- `fits e r`: entry e is right for row r; d is the entry of a cause beyond the table
module _ (fits : ℕ → Row → Bool) (d : ℕ) where
  -- each entry fits the row of its cause, counted from i
  abbrev pub each : List Row → ℕ → List ℕ → Bool
  each rows i [] = true
  each rows i (x ∷ xs) = fits x (row_of rows i) && each rows (suc i) xs

  -- d fits each row whose cause is not below n
  abbrev pub late : ℕ → List Row → Bool
  late n [] = true
  late n (r ∷ rs) = (ltb r.cause n || fits d r) && late n rs

  abbrev pub agrees : List Row → List ℕ → Bool
  agrees rows xs = each rows 0 xs && late (length xs) rows

  inside : (rows : List Row) (xs : List ℕ) (i k : ℕ) → k < length xs → each rows i xs ≡ true → fits (get_or xs k d) (row_of rows (i + k)) ≡ true
  inside rows [] i k h t = absurd (not-suc-le-zero h)
  inside rows (x ∷ xs) i zero h t = rw (add-zero i) (and_left (fits x (row_of rows i)) _ t)
  inside rows (x ∷ xs) i (suc k) h t =
      rw (add-suc i k, ← suc-add i k) (inside rows xs (suc i) k (le_of_suc-le-suc h) (and_right (fits x (row_of rows i)) _ t))

  beyond : (rows : List Row) (n k : ℕ) → n ≤ k → ((j : ℕ) → fits d (row j as_3GPP none) ≡ true) → late n rows ≡ true → fits d (row_of rows k) ≡ true
  beyond [] n k h free t = free k
  beyond (r ∷ rs) n k h free t = go (eqb k r.cause) refl (beyond rs n k h free (and_right (ltb r.cause n || fits d r) _ t))
    where
      go : (b : Bool) → eqb k r.cause ≡ b → fits d (row_of rs k) ≡ true → fits d (cond b r (row_of rs k)) ≡ true
      go true e rest = so (ltb r.cause n) refl (and_left (ltb r.cause n || fits d r) _ t)
        where
          so : (y : Bool) → ltb r.cause n ≡ y → (y || fits d r) ≡ true → fits d r ≡ true
          so true p q = absurd (omega (arith, ltb-true r.cause n p, eqb-true k r.cause e))
          so false p q = q
      go false e rest = rest

  -- the entry of any cause fits its row
  pub tabled : ((j : ℕ) → fits d (row j as_3GPP none) ≡ true) → (rows : List Row) (xs : List ℕ) → agrees rows xs ≡ true
      → (k : ℕ) → fits (get_or xs k d) (row_of rows k) ≡ true
  tabled free rows xs t k = go (ltb k (length xs)) refl
    where
      go : (b : Bool) → ltb k (length xs) ≡ b → fits (get_or xs k d) (row_of rows k) ≡ true
      go true e = rw zero-add at (inside rows xs 0 k (ltb-true k (length xs) e) (and_left (each rows 0 xs) _ t))
      go false e =
          let h = ltb-false k (length xs) e in
          rw (get_or-eq_default xs d h) (beyond rows (length xs) k h free (and_right (each rows 0 xs) _ t))

-- ---- The tables of actions and of error numbers, column by column

-- the actions of a column
abbrev pub actions : ℕ → List ℕ → Bool
actions column xs = agrees (λ e r. eqb e (spelled r.action)) plain (get_or columns column []) xs

-- its error numbers
abbrev pub errors : ℕ → List ℕ → Bool
errors column xs = agrees (λ e r. means e r.error) plain (get_or columns column []) xs

-- an entry of a table that agrees with its column
module _ (column cause : ℕ) {e : ℕ} (xs : List ℕ) (at : e ≡ entry_at xs cause) where
  pub acts : actions column xs ≡ true → e ≡ spelled (printed column cause).action
  unfolding printed entry_at
  acts t = at ∙ eqb-true _ _ (tabled (λ e r. eqb e (spelled r.action)) plain (λ j. refl) (get_or columns column []) xs t cause)

  pub errs : errors column xs ≡ true → means e (printed column cause).error ≡ true
  unfolding printed entry_at means
  errs t = rw at (tabled (λ e r. means e r.error) plain (λ j. refl) (get_or columns column []) xs t cause)

-- a column that is none has no row
pub no_rows : (column cause : ℕ) → 5 ≤ column → printed column cause ≡ row cause as_3GPP none
unfolding printed
no_rows column cause h = rw (get_or-eq_default columns [] h)

-- nor has one beyond RP a number
pub no_number : (column cause : ℕ) → 4 ≤ column → means plain (printed column cause).error ≡ true
unfolding means entry_at
no_number column cause h = go (eqb column 4) refl
  where
    go : (b : Bool) → eqb column 4 ≡ b → means plain (printed column cause).error ≡ true
    go true e = rw (eqb-true column 4 e) (errs 4 cause [] refl refl)
    go false e = rw (no_rows column cause (omega (arith, eqb-false column 4 e)))
