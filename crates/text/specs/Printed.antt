-- How a number is printed, and what the reading of one says of the text. Assumes nothing.
use Rattle.std.specs.Prelude.{cond, ℕ, zero, suc, ◌+◌, ◌/◌, ◌%◌, ◌≤◌, ◌<◌, ◌≡◌, List, [], ◌∷◌, ◌++◌, ltb}
use Rattle.text.specs.Number.{digit_of, Part, got, none}

-- the decimal digits of n, at most k of them
unfoldable pub dec : ℕ → ℕ → List ℕ
dec zero n = []
dec (suc k) n = let r = dec k (n / 10) in cond (ltb n 10) ((48 + n) ∷ []) (r ++ ((48 + n % 10) ∷ []))

-- the print of a number below 10 ^ 20
abbrev pub print_num : ℕ → List ℕ
print_num n = dec 20 n

-- two numbers with a space between, and LF
abbrev pub print_two : ℕ → ℕ → List ℕ
print_two n m = print_num n ++ (32 ∷ (print_num m ++ (10 ∷ [])))

-- no digit stands first
abbrev pub Stops : List ℕ → Type 0
Stops [] = Unit {0}
Stops (x ∷ l) = 9 < digit_of x

-- what was read of the text t: a number up to most, whose print stands first in t, and the bytes after it
abbrev pub After : ℕ → List ℕ → Part → Type 0
After most t none = Unit {0}
After most t (got n r) = (t ≡ print_num n ++ r) × (n ≤ most)
