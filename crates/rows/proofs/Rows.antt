-- Rows of numbers as the code holds them, and the numbers in them. Assumes nothing.
use Prim.Native.Nat.{ℕ, zero, suc, ◌^◌, ◌≤◌, ◌<◌}
use mathlib.Core.Path.{◌≡◌, sym, ◌∙◌, subst}
use mathlib.Core.Bool.{cond}
use mathlib.Core.List.{List, [], ◌∷◌, ◌++◌}
use mathlib.Core.Logic.{◌≢◌}
use native.Mathlib.Omega.{arith}
use lib.Dec.{eqb}
use lib.ListN.{length, take, drop}
use lib.Seq.{take_all, length-take-le}
use borrow.Author.Tests.{eq-eqb, ne_eqb}
use Rattle.text.specs.Number.{Part, got, none, num, part_of}
use Rattle.text.specs.Printed.{After}
use Rattle.text.specs.declared.Num.{Num}
use Rattle.std.specs.Prelude.{Option, Some, None}
use Rattle.text.proofs.Choice.{cond_by}
use Rattle.text.proofs.Printed.{num_said}
use Rattle.rows.specs.Rows.{Row, row, no_row, begins, more_of, numbers, space, fields, if_number, if_numbers, if_exactly}
use Rattle.rows.specs.Rows.{UpTo, row_of}
use Rattle.rows.specs.declared.Span.{Span}

-- ---- What follows what the code read

module _ {A : Type 0} (z : A) (line : List ℕ) (r : Option Num) {x : Part} (e : part_of line r ≡ x) (go : ℕ → List ℕ → A) where
  pub number_none : r ≡ None → if_number z x go ≡ z
  number_none h = rw (← e, h)

  pub number_some : (n : Num) → r ≡ Some n → if_number z x go ≡ go n.value (drop n.next line)
  number_some n h = rw (← e, h)

module _ {A : Type 0} (z : A) (line out : List ℕ) (r : Option Span) {x : Row} (e : row_of line r out ≡ x) (go : List ℕ → List ℕ → A) where
  pub numbers_none : r ≡ None → if_numbers z x go ≡ z
  numbers_none h = rw (← e, h)

  pub numbers_some : (s : Span) → r ≡ Some s → if_numbers z x go ≡ go (take s.count out) (drop s.next line)
  numbers_some s h = rw (← e, h)

module _ {A : Type 0} (z : A) (k : ℕ) (line out : List ℕ) (r : Option Span) {x : Row} (e : row_of line r out ≡ x) (go : List ℕ → List ℕ → A) where
  pub exactly_none : r ≡ None → if_exactly z k x go ≡ z
  exactly_none h = numbers_none z line out r e (λ n l. cond (eqb (length n) k) (go n l) z) h

  module _ (s : Span) (h : r ≡ Some s) (few : s.count ≤ length out) where
    pub exactly_not : s.count ≢ k → if_exactly z k x go ≡ z
    exactly_not n = numbers_some z line out r e (λ m l. cond (eqb (length m) k) (go m l) z) s h ∙ rw (length-take-le s.count out few, ne_eqb s.count k n)

    pub exactly_so : s.count ≡ k → if_exactly z k x go ≡ go (take s.count out) (drop s.next line)
    exactly_so n = numbers_some z line out r e (λ m l. cond (eqb (length m) k) (go m l) z) s h ∙ rw (length-take-le s.count out few, eq-eqb s.count k n)

-- ---- The numbers of a row are in range

up_to_more : (most : ℕ) (l : List ℕ) (v : ℕ) → UpTo most l → v ≤ most → UpTo most (l ++ (v ∷ []))
up_to_more most [] v u h zero p = h
up_to_more most [] v u h (suc i) p = absurd (omega arith)
up_to_more most (x ∷ l) v u h zero p = u 0 (omega arith)
up_to_more most (x ∷ l) v u h (suc i) p = up_to_more most l v (λ j q. u (suc j) (omega arith)) h i (omega arith)

abbrev pub RowUpTo : ℕ → Row → Type 0
RowUpTo most no_row = Unit {0}
RowUpTo most (row n l) = UpTo most n

module _ (sep most : ℕ) (lim : most < 10 ^ 20) where
  numbers_up_to : (k : ℕ) (l done : List ℕ) → UpTo most done → RowUpTo most (numbers sep most k l done)
  unfolding numbers
  numbers_up_to zero l done u = tt
  numbers_up_to (suc k) l done u = go (num most l) (num_said most lim l) (numbers_up_to k)
    where
      go : (p : Part) → After most l p → ((r d : List ℕ) → UpTo most d → RowUpTo most (numbers sep most k r d)) → RowUpTo most (more_of sep p done (numbers sep most k))
      go none a ih = tt
      go (got v r) a ih =
          cond_by (RowUpTo most) (begins sep r) {x = numbers sep most k (drop 1 r) (done ++ (v ∷ []))} {y = row (done ++ (v ∷ [])) r} (λ _. ih (drop 1 r) (done ++ (v ∷ [])) (up_to_more most done v u a.1))
          (λ _. up_to_more most done v u a.1)

  pub fields_up_to : (k : ℕ) (l : List ℕ) → RowUpTo most (fields sep most k l)
  unfolding fields
  fields_up_to k l = cond_by (RowUpTo most) (begins space l) {x = numbers sep most k (drop 1 l) []} {y = no_row} (λ _. numbers_up_to k (drop 1 l) [] (λ i p. absurd (omega arith))) (λ _. tt)

  -- so are those that fill the list that the code lent
  pub full_up_to : (k : ℕ) (l line out : List ℕ) (s : Span) → row_of line (Some s) out ≡ fields sep most k l → length out ≤ s.count → UpTo most out
  full_up_to k l line out s e h = subst (UpTo most) (take_all s.count out h) (subst (RowUpTo most) (sym e) (fields_up_to k l))
