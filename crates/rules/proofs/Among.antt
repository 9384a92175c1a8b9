-- A number and a table of numbers: what every number of the table has, a number among them has. Assumes nothing.
use mathlib.Core.Path.{◌≡◌, refl, sym, subst}
use mathlib.Core.Bool.{Bool, true, false, ◌||◌, false≢true}
use mathlib.Core.List.{List, [], ◌∷◌}
use mathlib.Core.Logic.{◌≢◌}
use Prim.Native.Nat.{ℕ}
use lib.Dec.{eqb}
use borrow.Author.Tests.{eqb-true, ne_eqb}
use Rattle.rules.specs.Tables.{among}

-- of every number of a table
abbrev pub All : (ℕ → Type 0) → List ℕ → Type 0
All P [] = Unit {0}
All P (x ∷ l) = P x × All P l

pub all_map : {P Q : ℕ → Type 0} (l : List ℕ) → ((x : ℕ) → P x → Q x) → All P l → All Q l
all_map [] f h = tt
all_map (x ∷ l) f h = (f x h.0, all_map l f h.1)

pub among_all : (P : ℕ → Type 0) (n : ℕ) (l : List ℕ) → All P l → among n l ≡ true → P n
among_all P n [] h e = absurd (false≢true e)
among_all P n (x ∷ l) h e = go (eqb n x) refl e (among_all P n l h.1)
  where
    go : (b : Bool) → eqb n x ≡ b → (b || among n l) ≡ true → (among n l ≡ true → P n) → P n
    go true p e rest = subst P (sym (eqb-true n x p)) h.0
    go false p e rest = rest e

-- a number that is none of them, and one that is not among them
pub not_among : (n : ℕ) (l : List ℕ) → All (λ x. n ≢ x) l → among n l ≡ false
not_among n [] h = refl
not_among n (x ∷ l) h = rw (ne_eqb n x h.0, not_among n l h.1)

pub among_none : (n : ℕ) (l : List ℕ) → among n l ≡ false → All (λ x. eqb n x ≡ false) l
among_none n [] e = tt
among_none n (x ∷ l) e = go (eqb n x) refl e (among_none n l)
  where
    go : (b : Bool) → eqb n x ≡ b → (b || among n l) ≡ false → (among n l ≡ false → All (λ y. eqb n y ≡ false) l) → All (λ y. eqb n y ≡ false) (x ∷ l)
    go true p e rest = absurd (false≢true (sym e))
    go false p e rest = (p, rest e)

-- the tests one after the other, as code has them: of a, b and c, `(a || b) || c`
abbrev pub tests : Bool → ℕ → List ℕ → Bool
tests b n [] = b
tests b n (x ∷ l) = tests (b || eqb n x) n l

pub tests_among : (b : Bool) (n : ℕ) (l : List ℕ) → tests b n l ≡ (b || among n l)
tests_among true n [] = refl
tests_among false n [] = refl
tests_among true n (x ∷ l) = tests_among true n l
tests_among false n (x ∷ l) = tests_among (eqb n x) n l
