-- A buffer as bytes: each number as four, the lowest first. Assumes nothing.
use Rattle.std.specs.Prelude.{List, [], ◌∷◌, ◌++◌, ℕ, ◌+◌, ◌*◌, ◌/◌, ◌%◌, ◌<◌, ◌^◌}

-- the four bytes of a number
abbrev pub four : ℕ → List ℕ
four n = n % 256 ∷ n / 256 % 256 ∷ n / 65536 % 256 ∷ n / 16777216 % 256 ∷ []

-- the number of four bytes
abbrev pub number : ℕ → ℕ → ℕ → ℕ → ℕ
number a b c d = a + 256 * b + 65536 * c + 16777216 * d

-- numbers as bytes
unfoldable pub image_of : List ℕ → List ℕ
image_of [] = []
image_of (n ∷ l) = four n ++ image_of l

-- bytes as numbers; fewer than four at the end are none
unfoldable pub numbers_of : List ℕ → List ℕ
numbers_of [] = []
numbers_of (a ∷ []) = []
numbers_of (a ∷ b ∷ []) = []
numbers_of (a ∷ b ∷ c ∷ []) = []
numbers_of (a ∷ b ∷ c ∷ d ∷ l) = number a b c d ∷ numbers_of l

-- every number has 32 bits
abbrev pub Words : List ℕ → Type 0
Words [] = Unit {0}
Words (n ∷ l) = (n < 2 ^ 32) × Words l
