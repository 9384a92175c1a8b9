-- A decimal at the front of a list of bytes: its value and the bytes after it. A place p of a line stands for `drop p line`. Assumes nothing.
use Rattle.std.specs.Prelude.{cond, ℕ, ◌+◌, ◌-◌, ◌*◌, List, [], ◌∷◌, drop, leb, ltb, eqb, Option, Some, None}
use Rattle.text.specs.declared.Num.{Num}

-- the digit that a byte is, or 10
unfoldable pub digit_of : ℕ → ℕ
digit_of x = cond (ltb x 48) 10 (cond (ltb 57 x) 10 (x - 48))

-- a number and the bytes after it, or none
pub data Part : Type 0 where
  got : ℕ → List ℕ → Part
  none : Part

-- more digits after those that make v
unfoldable pub digits : ℕ → List ℕ → ℕ → Part
digits most [] v = got v []
digits most (x ∷ l) v = cond (ltb (digit_of x) 10) (cond (leb (v * 10 + digit_of x) most) (digits most l (v * 10 + digit_of x)) none) (got v (x ∷ l))

-- a decimal up to most: 0 alone, or digits of which the first is not 0
unfoldable pub num : ℕ → List ℕ → Part
num most [] = none
num most (x ∷ l) = cond (ltb (digit_of x) 10) (cond (eqb (digit_of x) 0) (got 0 l) (cond (leb (digit_of x) most) (digits most l (digit_of x)) none)) none

-- what the code's answer says of the line: the place is the bytes from there
abbrev pub part_of : List ℕ → Option Num → Part
part_of line (Some n) = got n.value (drop n.next line)
part_of line None = none

-- the place and the value of the code's answer, 0 where there is none
abbrev pub place_of : Option Num → ℕ
place_of (Some n) = n.next
place_of None = 0

abbrev pub value_of : Option Num → ℕ
value_of (Some n) = n.value
value_of None = 0
