-- Leaks counted one by one, as the record has them, come to the difference of two divisions, as the rules take it. Assumes nothing.
use Prim.Native.Nat.{ℕ, zero, suc, ◌+◌, ◌-◌, ◌*◌, ◌/◌, ◌%◌, ◌≤◌, ◌<◌}
use mathlib.Core.Path.{◌≡◌, refl, sym, ap}
use mathlib.Core.Bool.{Bool, true, false, cond, ◌&&◌}
use lib.Dec.{ltb, eqb}
use borrow.Author.Tests.{ltb-true, ltb-false, eqb-true, eqb-false, lt-ltb}
use native.Mathlib.Nat.{div-add-mod', div-eq_of_lt-le, div-zero, mod-lt, zero-mul, add-mul, one-mul, add-zero, add-suc}
use native.Mathlib.Numerals.{add-one}
use native.Mathlib.Omega.{arith}
use Rattle.rules.specs.Record.{leak_point, leaked}

-- one more where the test holds
abbrev plus : Bool → ℕ → ℕ
plus b n = cond b (suc n) n

-- the next number's quotient is one more just where its remainder is 0
next_quotient : (m y : ℕ) → 0 < m → suc y / m ≡ plus (eqb (suc y % m) 0) (y / m)
next_quotient m y h = go (suc y / m) (eqb (suc y % m) 0) refl (div-add-mod' (suc y) m)
  where
    rest : suc y % m < m
    rest = mod-lt (suc y) h

    go : (k : ℕ) (b : Bool) → eqb (suc y % m) 0 ≡ b → k * m + suc y % m ≡ suc y → k ≡ plus b (y / m)
    go k false e w = let r = eqb-false (suc y % m) 0 e in sym (div-eq_of_lt-le m (omega arith) (rw (add-mul k 1 m, one-mul) (omega (arith, rest))))
    go zero true e w = absurd (omega (arith, eqb-true (suc y % m) 0 e, zero-mul m))
    go (suc k) true e w =
        let r = eqb-true (suc y % m) 0 e in
        let more : suc k * m ≡ k * m + m = rw (← add-one k, add-mul k 1 m, one-mul) in
        ap suc (sym (div-eq_of_lt-le m (omega arith) (rw (add-one k, more) (omega arith))))

-- leak points up to time x
abbrev pub points_to : ℕ → ℕ → ℕ → ℕ
points_to opened rate x = (x - opened) / (rate * 3600)

next_point : (opened rate x : ℕ) → points_to opened rate (suc x) ≡ plus (leak_point opened rate (suc x)) (points_to opened rate x)
unfolding leak_point
next_point opened zero x = rw (zero-mul 3600, div-zero (suc x - opened), div-zero (x - opened))
next_point opened (suc r) x = rw (lt-ltb 0 (suc r) (omega arith)) (go (ltb opened (suc x)) refl)
  where
    m : ℕ
    m = suc r * 3600

    go : (b : Bool) → ltb opened (suc x) ≡ b → (suc x - opened) / m ≡ plus (b && eqb ((suc x - opened) % m) 0) ((x - opened) / m)
    go true e =
        let h = ltb-true opened (suc x) e in
        let s : suc x - opened ≡ suc (x - opened) = omega arith in
        rw s (next_quotient m (x - opened) (omega arith))
    go false e =
        let h = ltb-false opened (suc x) e in
        let s : suc x - opened ≡ x - opened = omega arith in
        rw s

plus_more : (b : Bool) (n : ℕ) → n ≤ plus b n
plus_more true n = omega arith
plus_more false n = omega arith

points_rise : (opened rate x n : ℕ) → points_to opened rate x ≤ points_to opened rate (x + n)
points_rise opened rate x zero = rw add-zero (omega arith)
points_rise opened rate x (suc n) =
    let now = points_to opened rate (x + n) in
    rw (add-suc, next_point opened rate (x + n)) (omega (arith, points_rise opened rate x n, plus_more (leak_point opened rate (suc (x + n))) now))

-- n seconds after the old time
pub one_by_one : (opened rate old n c : ℕ) → leaked opened rate old n c ≡ c - (points_to opened rate (old + n) - points_to opened rate old)
unfolding leaked
one_by_one opened rate old zero c = rw add-zero (omega arith)
one_by_one opened rate old (suc n) c =
    rw (add-suc, next_point opened rate (old + n)) (go (leak_point opened rate (suc (old + n))) (one_by_one opened rate old n c) (points_rise opened rate old n))
  where
    go : (b : Bool) → leaked opened rate old n c ≡ c - (points_to opened rate (old + n) - points_to opened rate old) → points_to opened rate old ≤ points_to opened rate (old + n)
        → cond b (leaked opened rate old n c - 1) (leaked opened rate old n c) ≡ c - (plus b (points_to opened rate (old + n)) - points_to opened rate old)
    go true e h = omega arith
    go false e h = e
