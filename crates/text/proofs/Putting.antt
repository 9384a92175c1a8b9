-- A printed number, written byte by byte. Assumes nothing.
use Prim.Native.Nat.{ℕ, suc, ◌+◌, ◌/◌, ◌%◌, ◌≤◌, ◌<◌, ◌^◌}
use mathlib.Core.Path.{◌≡◌, sym, ap, ◌∙◌}
use mathlib.Core.List.{List, [], ◌∷◌, ◌++◌}
use native.Mathlib.Omega.{arith}
use lib.ListN.{length, set, length-append}
use lib.Seq.{sets}
use Rattle.text.specs.Printed.{print_num, print_two}
use Rattle.text.proofs.Printed.{dec_one, dec_many, dec_stable, dec_short}

-- more bytes, after those stored
pub sets_append : (l : List ℕ) (i : ℕ) (xs ys : List ℕ) → sets l i (xs ++ ys) ≡ sets (sets l i xs) (i + length xs) ys
sets_append l i [] ys = ap (λ (k : ℕ). sets l k ys) (let e : i ≡ i + 0 = omega arith in e)
sets_append l i (x ∷ xs) ys = sets_append (set l i x) (suc i) xs ys ∙ ap (λ (k : ℕ). sets (sets (set l i x) (suc i) xs) k ys) (let e : suc i + length xs ≡ i + suc (length xs) = omega arith in e)

module _ (n : ℕ) where
  -- a digit
  pub print_one : n < 10 → print_num n ≡ (48 + n) ∷ []
  print_one h = dec_one 19 n h

  -- a number of more digits is printed by its tenth and its last digit
  pub print_many : 10 ≤ n → n < 10 ^ 20 → print_num n ≡ print_num (n / 10) ++ ((48 + n % 10) ∷ [])
  print_many h k = dec_many 19 n h ∙ ap (λ (l : List ℕ). l ++ ((48 + n % 10) ∷ [])) (sym (dec_stable 19 (n / 10) (omega arith) (omega arith)))

  pub length_one : n < 10 → length (print_num n) ≡ 1
  length_one h = ap length (print_one h)

  pub length_many : 10 ≤ n → n < 10 ^ 20 → length (print_num n) ≡ length (print_num (n / 10)) + 1
  length_many h k = ap length (print_many h k) ∙ length-append (print_num (n / 10)) ((48 + n % 10) ∷ [])

  module _ (l : List ℕ) (i : ℕ) where
    pub put_one : n < 10 → set l i (48 + n) ≡ sets l i (print_num n)
    put_one h = ap (sets l i) (sym (print_one h))

    pub put_many : 10 ≤ n → n < 10 ^ 20 → set (sets l i (print_num (n / 10))) (i + length (print_num (n / 10))) (48 + n % 10) ≡ sets l i (print_num n)
    put_many h k = sym (sets_append l i (print_num (n / 10)) ((48 + n % 10) ∷ [])) ∙ ap (sets l i) (sym (print_many h k))

-- no number of 32 bits has more than ten digits
pub ten_digits : (n : ℕ) → n < 2 ^ 32 → length (print_num n) ≤ 10
ten_digits n h = dec_short 20 10 n (omega arith) (omega arith)

-- one number, a space, another, and LF
module _ (n m : ℕ) where
  pub length_two : length (print_two n m) ≡ length (print_num n) + 1 + length (print_num m) + 1
  length_two = simp length-append (omega arith)

  pub put_two : (l : List ℕ) (i j k : ℕ) → j ≡ i + length (print_num n) → k ≡ j + 1 + length (print_num m)
      → set (sets (set (sets l i (print_num n)) j 32) (j + 1) (print_num m)) k 10 ≡ sets l i (print_two n m)
  put_two l i j k p q =
      let u = print_num n in
      let v = print_num m in
      let e : j + 1 ≡ suc (i + length u) = omega arith in
      let f : k ≡ suc (i + length u) + length v = omega arith in
      rw (e, f, p) (sym (sets_append (set (sets l i u) (i + length u) 32) (suc (i + length u)) v (10 ∷ [])) ∙ sym (sets_append l i u (32 ∷ (v ++ (10 ∷ [])))))
