-- What was written reads back as the same numbers, and takes four bytes for each. Assumes nothing.
use mathlib.Core.Path.{◌≡◌, refl}
use mathlib.Core.List.{List, [], ◌∷◌}
use Prim.Native.Nat.{ℕ, ◌+◌, ◌*◌, ◌/◌, ◌%◌, ◌<◌, ◌^◌}
use native.Mathlib.Omega.{arith}
use lib.ListN.{length}
use Rattle.image.specs.Image.{number, image_of, numbers_of, Words}

-- a number, by its lowest byte and what is above it, four times
joined : (a b c d n p q r : ℕ) → a + 256 * p ≡ n → b + 256 * q ≡ p → c + 256 * r ≡ q → d ≡ r → number a b c d ≡ n
joined a b c d n p q r h i j k = omega arith

-- the bytes of a number of 32 bits make the number
number_back : (n : ℕ) → n < 2 ^ 32 → number (n % 256) (n / 256 % 256) (n / 65536 % 256) (n / 16777216 % 256) ≡ n
number_back n h =
    let a : n / 65536 ≡ n / 256 / 256 = omega arith in
    let b : n / 16777216 ≡ n / 256 / 256 / 256 = omega arith in
    rw (a, b) (joined _ _ _ _ n (n / 256) (n / 256 / 256) (n / 256 / 256 / 256) (omega arith) (omega arith) (omega arith) (omega arith))

-- What was written reads back as the same numbers.
pub returns : (l : List ℕ) → Words l → numbers_of (image_of l) ≡ l
unfolding image_of numbers_of
returns [] w = refl
returns (n ∷ l) w = cc (number_back n w.0, returns l w.1)

-- Each number takes four bytes.
pub image_length : (l : List ℕ) → length (image_of l) ≡ 4 * length l
unfolding image_of
image_length [] = refl
image_length (n ∷ l) = omega (arith, image_length l)
