-- Numbers in a line of bytes: fields are parted by one space, listed numbers by another byte.
-- Assumes nothing.
use Rattle.std.specs.Prelude.{Bool, true, false, cond, List, [], ◌∷◌, ◌++◌, ℕ, zero, suc, ◌≤◌, ◌<◌, eqb, length, get_or, take, drop, Option, Some, None}
use Rattle.text.specs.Number.{Part, got, none, num}
use Rattle.rows.specs.declared.Span.{Span}

-- the byte that parts fields
abbrev pub space : ℕ
space = 32

-- the byte x stands first
unfoldable pub begins : ℕ → List ℕ → Bool
begins x [] = false
begins x (y ∷ l) = eqb y x

-- nothing is left
unfoldable pub ended : List ℕ → Bool
ended [] = true
ended (x ∷ l) = false

-- a space and a number
unfoldable pub field : (most : ℕ) → List ℕ → Part
field most l = cond (begins space l) (num most (drop 1 l)) none

-- numbers and the bytes after them, or none
pub data Row : Type 0 where
  row : List ℕ → List ℕ → Row
  no_row : Row

-- what follows a number of a row
abbrev pub more_of : ℕ → Part → List ℕ → (List ℕ → List ℕ → Row) → Row
more_of sep none done go = no_row
more_of sep (got v r) done go = cond (begins sep r) (go (drop 1 r) (done ++ (v ∷ []))) (row (done ++ (v ∷ [])) r)

-- numbers with the byte sep between them, after those done: all that stand there, at least one and
-- at most k
unfoldable pub numbers : (sep most k : ℕ) → List ℕ → List ℕ → Row
numbers sep most zero l done = no_row
numbers sep most (suc k) l done = more_of sep (num most l) done (numbers sep most k)

-- a space and a row of numbers
unfoldable pub fields : (sep most k : ℕ) → List ℕ → Row
fields sep most k l = cond (begins space l) (numbers sep most k (drop 1 l) []) no_row

-- what follows a number, numbers, or k numbers exactly; z where they are not there
abbrev pub if_number : {A : Type 0} → A → Part → (ℕ → List ℕ → A) → A
if_number z none go = z
if_number z (got v l) go = go v l

abbrev pub if_numbers : {A : Type 0} → A → Row → (List ℕ → List ℕ → A) → A
if_numbers z no_row go = z
if_numbers z (row n l) go = go n l

abbrev pub if_exactly : {A : Type 0} → A → ℕ → Row → (List ℕ → List ℕ → A) → A
if_exactly z k r go = if_numbers z r (λ n l. cond (eqb (length n) k) (go n l) z)

-- ---- As the code holds them

-- no number of the list is above most
abbrev pub UpTo : ℕ → List ℕ → Type 0
UpTo most l = (i : ℕ) → i < length l → get_or l i 0 ≤ most

-- a row: the first numbers of a list that was lent, and the place after them in the line
abbrev pub row_of : List ℕ → Option Span → List ℕ → Row
row_of line None out = no_row
row_of line (Some s) out = row (take s.count out) (drop s.next line)
