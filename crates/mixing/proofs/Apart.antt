-- Different numbers of 64 bits never mix to the same one. Assumes nothing.
--
-- A step makes `bit_xor x (g x)` of x, where g shifts. One argument undoes both kinds of step, for any amount of the shift: `known`. Look at x
-- through a row of views, each finer than the one before. If each view of `g x` is known from the view of x before it, then all views of x are
-- known from `bit_xor x (g x)`, one after the other. To the left the views are the j low digits, to the right the j high ones.
use mathlib.Core.Path.{◌≡◌, refl, sym, ap, ap₂, ◌∙◌}
use Prim.Native.Nat.{ℕ, zero, suc, ◌+◌, ◌-◌, ◌*◌, ◌/◌, ◌%◌, ◌^◌, ◌≤◌, ◌<◌, min}
use native.Mathlib.Nat.{div-add-mod', mod-one, mod-eq_of_lt, div-eq_of_lt, div-one, le_refl, sub_self, sub-zero, mul-add-mod_self_right, add-mul, mul_assoc}
use native.Mathlib.Omega.{arith}
use lib.Arith.{bin_ind}
use lib.Pow.{split, shr-shr, shr_le, mod-mod-pow, pow-add}
use lib.Bits.{bit_xor, differ, xor_step, xor_self, xor_shr, xor_mod, xor_lt}
use Rattle.mixing.specs.Mixing.{xor_left, xor_right, mixed, start, drawn}

-- ---- Exclusive or with c, twice, changes nothing

bit_back : (a c : ℕ) → a < 2 → c < 2 → differ (bit_xor a c) c ≡ a
bit_back zero zero h l = refl
bit_back zero (suc zero) h l = refl
bit_back (suc zero) zero h l = refl
bit_back (suc zero) (suc zero) h l = refl
bit_back zero (suc (suc c)) h l = absurd (omega arith)
bit_back (suc zero) (suc (suc c)) h l = absurd (omega arith)
bit_back (suc (suc a)) c h l = absurd (omega arith)

xor_back : (a c : ℕ) → bit_xor (bit_xor a c) c ≡ a
xor_back =
    bin_ind (λ (a : ℕ). (c : ℕ) → bit_xor (bit_xor a c) c ≡ a) xor_self
    (λ a back c. xor_step (bit_xor a c) c
    ∙ ap₂ (λ (n b : ℕ). n * 2 + b)
    (ap (λ (n : ℕ). bit_xor n (c / 2)) (xor_shr a c 1) ∙ back (c / 2))
    (ap (λ (n : ℕ). differ n (c % 2)) (xor_mod a c 1) ∙ bit_back (a % 2) (c % 2) (omega arith) (omega arith))
    ∙ div-add-mod' a 2)

xor_cancel : (a b c : ℕ) → bit_xor a c ≡ bit_xor b c → a ≡ b
xor_cancel a b c e = sym (xor_back a c) ∙ ap (λ (n : ℕ). bit_xor n c) e ∙ xor_back b c

-- ---- The one argument, for numbers of w bits

module _ (w : ℕ) (g : ℕ → ℕ) (view : ℕ → ℕ → ℕ) (apart : (j a b : ℕ) → view j (bit_xor a b) ≡ bit_xor (view j a) (view j b))
    (x y : ℕ) (first : view 0 x ≡ view 0 y)
    (later : (j : ℕ) → j < w → view j x ≡ view j y → view (suc j) (g x) ≡ view (suc j) (g y))
    (same : bit_xor x (g x) ≡ bit_xor y (g y)) where
  known : (j : ℕ) → j ≤ w → view j x ≡ view j y
  known zero h = first
  known (suc j) h =
      xor_cancel (view (suc j) x) (view (suc j) y) (view (suc j) (g y))
      (ap (bit_xor (view (suc j) x)) (sym (later j h (known j (omega arith))))
      ∙ sym (apart (suc j) x (g x)) ∙ ap (view (suc j)) same ∙ apart (suc j) y (g y))

-- ---- To the left

-- the j + 1 low digits of a shifted number are known from its j low ones
left_low : (w x k j : ℕ) → j < w → x * 2 ^ suc k % 2 ^ w % 2 ^ suc j ≡ x % 2 ^ j * 2 ^ suc k % 2 ^ suc j
left_low w x k j h = narrow ∙ ap (λ (n : ℕ). n % 2 ^ suc j) parts ∙ mul-add-mod_self_right (x / 2 ^ j * 2 ^ k) (2 ^ suc j) (x % 2 ^ j * 2 ^ suc k)
  where
    width : w - suc j + suc j ≡ w
    width = omega arith

    narrow : x * 2 ^ suc k % 2 ^ w % 2 ^ suc j ≡ x * 2 ^ suc k % 2 ^ suc j
    narrow = ap (λ (n : ℕ). x * 2 ^ suc k % 2 ^ n % 2 ^ suc j) (sym width) ∙ mod-mod-pow (x * 2 ^ suc k) (w - suc j) (suc j)

    sums : j + suc k ≡ k + suc j
    sums = omega arith

    parts : x * 2 ^ suc k ≡ x / 2 ^ j * 2 ^ k * 2 ^ suc j + x % 2 ^ j * 2 ^ suc k
    parts =
        ap (λ (n : ℕ). n * 2 ^ suc k) (sym (split x j)) ∙ add-mul (x / 2 ^ j * 2 ^ j) (x % 2 ^ j) (2 ^ suc k)
        ∙ ap (λ (n : ℕ). n + x % 2 ^ j * 2 ^ suc k)
        (mul_assoc (x / 2 ^ j) (2 ^ j) (2 ^ suc k)
        ∙ ap (λ (n : ℕ). x / 2 ^ j * n) (sym (pow-add 2 j (suc k)) ∙ ap (λ (n : ℕ). 2 ^ n) sums ∙ pow-add 2 k (suc j))
        ∙ sym (mul_assoc (x / 2 ^ j) (2 ^ k) (2 ^ suc j)))

pub left_undone : (w k x y : ℕ) → 1 ≤ k → x < 2 ^ w → y < 2 ^ w → bit_xor x (x * 2 ^ k % 2 ^ w) ≡ bit_xor y (y * 2 ^ k % 2 ^ w) → x ≡ y
left_undone w zero x y h hx hy e = absurd (omega arith)
left_undone w (suc k) x y h hx hy e =
    sym (mod-eq_of_lt hx)
    ∙ known w (λ n. n * 2 ^ suc k % 2 ^ w) (λ j n. n % 2 ^ j) (λ j a b. xor_mod a b j) x y (mod-one x ∙ sym (mod-one y))
    (λ j l s. left_low w x k j l ∙ ap (λ (n : ℕ). n * 2 ^ suc k % 2 ^ suc j) s ∙ sym (left_low w y k j l)) e w (le_refl w)
    ∙ mod-eq_of_lt hy

-- ---- To the right

-- the j + 1 high digits of a shifted number are known from its j high ones
right_high : (w x k j : ℕ) → j < w → x / 2 ^ suc k / 2 ^ (w - suc j) ≡ x / 2 ^ (w - j) / 2 ^ k
right_high w x k j h = shr-shr x (suc k) (w - suc j) ∙ ap (λ (n : ℕ). x / 2 ^ n) sums ∙ sym (shr-shr x (w - j) k)
  where
    sums : suc k + (w - suc j) ≡ w - j + k
    sums = omega arith

whole : (w x : ℕ) → x / 2 ^ (w - w) ≡ x
whole w x = ap (λ (n : ℕ). x / 2 ^ n) (sub_self w) ∙ div-one x

none : (w x : ℕ) → x < 2 ^ w → x / 2 ^ (w - 0) ≡ 0
none w x h = ap (λ (n : ℕ). x / 2 ^ n) (sub-zero w) ∙ div-eq_of_lt h

pub right_undone : (w k x y : ℕ) → 1 ≤ k → x < 2 ^ w → y < 2 ^ w → bit_xor x (x / 2 ^ k) ≡ bit_xor y (y / 2 ^ k) → x ≡ y
right_undone w zero x y h hx hy e = absurd (omega arith)
right_undone w (suc k) x y h hx hy e =
    sym (whole w x)
    ∙ known w (λ n. n / 2 ^ suc k) (λ j n. n / 2 ^ (w - j)) (λ j a b. xor_shr a b (w - j)) x y (none w x hx ∙ sym (none w y hy))
    (λ j l s. right_high w x k j l ∙ ap (λ (n : ℕ). n / 2 ^ k) s ∙ sym (right_high w y k j l)) e w (le_refl w)
    ∙ whole w y

-- ---- The three steps

left_below : (k x : ℕ) → x < 2 ^ 64 → xor_left k x < 2 ^ 64
left_below k x h = xor_lt 64 x (x * 2 ^ k % 2 ^ 64) h (omega arith)

right_below : (k x : ℕ) → x < 2 ^ 64 → xor_right k x < 2 ^ 64
right_below k x h = xor_lt 64 x (x / 2 ^ k) h (omega (arith, shr_le x k))

-- three steps, whatever the shifts are
steps_below : (i j k x : ℕ) → x < 2 ^ 64 → xor_left k (xor_right j (xor_left i x)) < 2 ^ 64
steps_below i j k x h = left_below k (xor_right j (xor_left i x)) (right_below j (xor_left i x) (left_below i x h))

steps_apart : (i j k x y : ℕ) → 1 ≤ i → 1 ≤ j → 1 ≤ k → x < 2 ^ 64 → y < 2 ^ 64
    → xor_left k (xor_right j (xor_left i x)) ≡ xor_left k (xor_right j (xor_left i y)) → x ≡ y
steps_apart i j k x y p q r hx hy e =
    let a = left_below i x hx in
    let b = left_below i y hy in
    left_undone 64 i x y p hx hy
    (right_undone 64 j (xor_left i x) (xor_left i y) q a b
    (left_undone 64 k (xor_right j (xor_left i x)) (xor_right j (xor_left i y)) r (right_below j (xor_left i x) a) (right_below j (xor_left i y) b) e))

-- what is mixed is a number of 64 bits again
pub mixed_below : (x : ℕ) → x < 2 ^ 64 → mixed x < 2 ^ 64
unfolding mixed
mixed_below x h = steps_below 13 7 17 x h

-- different starts never mix to the same x
pub mixed_apart : (x y : ℕ) → x < 2 ^ 64 → y < 2 ^ 64 → mixed x ≡ mixed y → x ≡ y
unfolding mixed
mixed_apart x y h k e = steps_apart 13 7 17 x y (omega arith) (omega arith) (omega arith) h k e

-- so different cards never draw the same x, nor does one card at different failures up to the 15th
pub draws_apart : (i n j m : ℕ) → i < 2 ^ 60 → j < 2 ^ 60 → drawn i n ≡ drawn j m → (i ≡ j) × (min n 15 ≡ min m 15)
draws_apart i n j m h k e =
    let s : start i n ≡ start j m = mixed_apart (start i n) (start j m) (omega arith) (omega arith) e in
    (omega arith, omega arith)
