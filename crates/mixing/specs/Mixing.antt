-- The mixing of request §3, by which a card draws the number that spreads its waits. Assumes nothing.
use Rattle.std.specs.Prelude.{ℕ, ◌+◌, ◌*◌, ◌/◌, ◌%◌, ◌^◌, min}
use Rattle.std.specs.Int.Bits.{bit_xor}

-- x xor (x shifted left k), kept to 64 bits
abbrev pub xor_left : ℕ → ℕ → ℕ
xor_left k x = bit_xor x (x * 2 ^ k % 2 ^ 64)

-- x xor (x shifted right k)
abbrev pub xor_right : ℕ → ℕ → ℕ
xor_right k x = bit_xor x (x / 2 ^ k)

-- x becomes x xor (x shifted left 13), x xor (x shifted right 7), x xor (x shifted left 17)
unfoldable pub mixed : ℕ → ℕ
mixed x = xor_left 17 (xor_right 7 (xor_left 13 x))

-- what is mixed: IMSI x 16 plus the smaller of n and 15
abbrev pub start : ℕ → ℕ → ℕ
start imsi n = imsi * 16 + min n 15

-- what a card draws with n failures
abbrev pub drawn : ℕ → ℕ → ℕ
drawn imsi n = mixed (start imsi n)
