-- The lowest bit of a mixed number hangs on two bits of the start alone. Assumes nothing.
use mathlib.Core.Path.{◌≡◌, ap, ap₂, ◌∙◌}
use Prim.Native.Nat.{ℕ, ◌*◌, ◌/◌, ◌%◌, ◌^◌}
use native.Mathlib.Omega.{arith}
use lib.Bits.{bit_xor, xor_mod, xor_shr, xor_zero_r}
use Rattle.mixing.specs.Mixing.{xor_left, xor_right, mixed}

-- exclusive or with an even number leaves the lowest bit
even_aside : (a b : ℕ) → b % 2 ≡ 0 → bit_xor a b % 2 ≡ a % 2
even_aside a b e = xor_mod a b 1 ∙ ap (bit_xor (a % 2)) e ∙ xor_zero_r (a % 2)

-- bit 0 xor bit 7
pub lowest : (x : ℕ) → mixed x % 2 ≡ bit_xor (x % 2) (x / 128 % 2)
unfolding mixed
lowest x =
    let a = xor_left 13 x in
    let shifted = x * 2 ^ 13 % 2 ^ 64 in
    let bit7 : a / 128 % 2 ≡ x / 128 % 2 = ap (λ (n : ℕ). n % 2) (xor_shr x shifted 7) ∙ even_aside (x / 128) (shifted / 128) (omega arith) in
    even_aside (xor_right 7 a) (xor_right 7 a * 2 ^ 17 % 2 ^ 64) (omega arith)
    ∙ xor_mod a (a / 128) 1 ∙ ap₂ bit_xor (even_aside x shifted (omega arith)) bit7
