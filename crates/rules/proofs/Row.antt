-- What request 3 leaves of a row of cards, whose IMSIs differ by 240: where B is even, all wait an even number of seconds at n failures, or all an
-- odd one. Assumes nothing.
use mathlib.Core.Path.{◌≡◌, sym, ap, ap₂, ◌∙◌}
use mathlib.Core.List.{List}
use Prim.Native.Nat.{ℕ, ◌+◌, ◌*◌, ◌/◌, ◌%◌}
use native.Mathlib.Nat.{add-mul-div_right, div-add-mod', mul_assoc}
use native.Mathlib.Omega.{arith}
use lib.Bits.{bit_xor}
use lib.Dec.{lit<}
use Rattle.mixing.specs.Mixing.{start, drawn}
use Rattle.mixing.proofs.Lowest.{lowest}
use Rattle.rules.specs.Tables.{interval, wait_for}

-- the remainder by an even number is even just when the number is
even_remainder : (x b : ℕ) → b % 2 ≡ 0 → x % b % 2 ≡ x % 2
even_remainder x b e =
    let half : b ≡ b / 2 * 2 = omega arith in
    let parts : x / b * (b / 2) * 2 + x % b ≡ x = ap (λ (n : ℕ). n + x % b) (mul_assoc (x / b) (b / 2) 2 ∙ ap (λ (n : ℕ). x / b * n) (sym half)) ∙ div-add-mod' x b in
    omega (arith, parts)

-- a whole number of 256s more changes neither bit 0 nor bit 7
bit_0 : (s m : ℕ) → (s + m * 256) % 2 ≡ s % 2
bit_0 s m = omega arith

bit_7 : (s m : ℕ) → (s + m * 256) / 128 % 2 ≡ s / 128 % 2
bit_7 s m = ap (λ (n : ℕ). n / 128 % 2) twice ∙ ap (λ (n : ℕ). n % 2) (add-mul-div_right s (m * 2) (lit< tt)) ∙ even (s / 128)
  where
    twice : s + m * 256 ≡ s + m * 2 * 128
    twice = omega arith

    even : (n : ℕ) → (n + m * 2) % 2 ≡ n % 2
    even n = omega arith

draws_alike : (imsi k n : ℕ) → drawn (imsi + 240 * k) n % 2 ≡ drawn imsi n % 2
draws_alike imsi k n =
    let s = start imsi n in
    let m = 15 * k in
    let apart : start (imsi + 240 * k) n ≡ s + m * 256 = omega arith in
    lowest (start (imsi + 240 * k) n) ∙ ap (λ (t : ℕ). bit_xor (t % 2) (t / 128 % 2)) apart ∙ ap₂ bit_xor (bit_0 s m) (bit_7 s m) ∙ sym (lowest s)

pub row_parity : (imsi k n : ℕ) (l : List ℕ) → interval l n % 2 ≡ 0 → wait_for (imsi + 240 * k) l n % 2 ≡ wait_for imsi l n % 2
unfolding wait_for
row_parity imsi k n l e =
    let b = interval l n in
    let x = drawn imsi n in
    let y = drawn (imsi + 240 * k) n in
    omega (arith, draws_alike imsi k n, even_remainder x b e, even_remainder y b e, e)
