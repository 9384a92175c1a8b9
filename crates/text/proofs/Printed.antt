-- A printed number is read back, and what is read is the print of a number. Assumes nothing.
use Prim.Native.Nat.{ℕ, zero, suc, ◌+◌, ◌*◌, ◌/◌, ◌%◌, ◌^◌, ◌≤◌, ◌<◌}
use mathlib.Core.Path.{◌≡◌, refl, sym, ap, ◌∙◌, subst}
use mathlib.Core.List.{List, [], ◌∷◌, ◌++◌, append_assoc}
use native.Mathlib.Nat.{pow-suc, div-add-mod'}
use native.Mathlib.Omega.{arith}
use lib.ListN.{length, length-append}
use lib.Dec.{ltb, leb, eqb}
use borrow.Author.Tests.{lt-ltb, le-ltb, le-leb, ne_eqb, ltb-true, ltb-false, leb-true, eqb-true, eqb-false}
use Rattle.text.specs.Number.{digit_of, Part, got, digits, num}
use Rattle.text.specs.Printed.{dec, print_num, Stops, After}
use Rattle.text.proofs.Choice.{cond_by}

-- ---- Digits

-- a byte before those of the digits is none
pub below : (x : ℕ) (l : List ℕ) → x < 48 → Stops (x ∷ l)
unfolding digit_of
below x l h = rw (lt-ltb x 48 h) (omega arith)

-- a digit's byte, and back
pub digit_byte : (d : ℕ) → d < 10 → digit_of (48 + d) ≡ d
unfolding digit_of
digit_byte d h = rw (le-ltb (48 + d) 48 (omega arith), le-ltb 57 (48 + d) (omega arith)) (omega arith)

pub byte_digit : (x : ℕ) → digit_of x < 10 → x ≡ 48 + digit_of x
unfolding digit_of
byte_digit x h =
    cond_by (λ (n : ℕ). n < 10 → x ≡ 48 + n) (ltb x 48) (λ _ k. absurd (omega arith))
    (λ p. cond_by (λ (n : ℕ). n < 10 → x ≡ 48 + n) (ltb 57 x) (λ _ k. absurd (omega arith)) (λ _ k. let a = ltb-false x 48 p in omega arith)) h

-- by whether n is a digit
pub by_ten : {P : Type 0} (n : ℕ) → (n < 10 → P) → (10 ≤ n → P) → P
by_ten {P} n f g = cond_by (λ (_ : ℕ). P) (ltb n 10) {x = 0} {y = 0} (λ e. f (ltb-true n 10 e)) (λ e. g (ltb-false n 10 e))

module _ (k n : ℕ) where
  pub dec_one : n < 10 → dec (suc k) n ≡ (48 + n) ∷ []
  unfolding dec
  dec_one h = rw (lt-ltb n 10 h)

  pub dec_many : 10 ≤ n → dec (suc k) n ≡ dec k (n / 10) ++ ((48 + n % 10) ∷ [])
  unfolding dec
  dec_many h = rw (le-ltb n 10 h)

-- a digit more
dec_more : (k v d : ℕ) → 1 ≤ v → d < 10 → dec (suc k) (v * 10 + d) ≡ dec k v ++ ((48 + d) ∷ [])
dec_more k v d h p =
    let a : (v * 10 + d) / 10 ≡ v = omega arith in
    let b : (v * 10 + d) % 10 ≡ d = omega arith in
    dec_many k (v * 10 + d) (omega arith) ∙ rw (a, b)

pub dec_stable : (k n : ℕ) → n < 10 ^ k → 1 ≤ n → dec (suc k) n ≡ dec k n
dec_stable zero n a b = absurd (omega arith)
dec_stable (suc k) n a b =
    by_ten n (λ h. dec_one (suc k) n h ∙ sym (dec_one k n h))
    (λ h. dec_many (suc k) n h ∙ (ap (λ (l : List ℕ). l ++ ((48 + n % 10) ∷ [])) (dec_stable k (n / 10) (omega (arith, pow-suc 10 k)) (omega arith)) ∙ sym (dec_many k n h)))

print_more : (v d : ℕ) → 1 ≤ v → d < 10 → v * 10 + d < 10 ^ 20 → print_num (v * 10 + d) ≡ print_num v ++ ((48 + d) ∷ [])
print_more v d a b c = dec_more 19 v d a b ∙ ap (λ (l : List ℕ). l ++ ((48 + d) ∷ [])) (sym (dec_stable 19 v (omega arith) a))

-- ---- Read back as printed

digits_one : (most : ℕ) (l : List ℕ) (v d : ℕ) → d < 10 → v * 10 + d ≤ most → digits most ((48 + d) ∷ l) v ≡ digits most l (v * 10 + d)
unfolding digits
digits_one most l v d a b = rw (digit_byte d a, lt-ltb d 10 a, le-leb (v * 10 + d) most b)

num_one : (most : ℕ) (l : List ℕ) (d : ℕ) → d < 10 → 1 ≤ d → d ≤ most → num most ((48 + d) ∷ l) ≡ digits most l d
unfolding num
num_one most l d a b c = rw (digit_byte d a, lt-ltb d 10 a, ne_eqb d 0 (λ e. omega arith), le-leb d most c)

num_dec : (most k n : ℕ) (l : List ℕ) → n < 10 ^ k → 1 ≤ n → n ≤ most → num most (dec k n ++ l) ≡ digits most l n
num_dec most zero n l a b c = absurd (omega arith)
num_dec most (suc k) n l a b c =
    by_ten n (λ h. ap (λ (t : List ℕ). num most (t ++ l)) (dec_one k n h) ∙ num_one most l n h b c)
    (λ h. ap (λ (t : List ℕ). num most (t ++ l)) (dec_many k n h)
    ∙ (ap (num most) (append_assoc (dec k (n / 10)) ((48 + n % 10) ∷ []) l)
    ∙ (num_dec most k (n / 10) ((48 + n % 10) ∷ l) (omega (arith, pow-suc 10 k)) (omega arith) (omega arith)
    ∙ (digits_one most l (n / 10) (n % 10) (omega arith) (omega arith) ∙ ap (digits most l) (div-add-mod' n 10)))))

digits_stop : (most : ℕ) (l : List ℕ) (v : ℕ) → Stops l → digits most l v ≡ got v l
unfolding digits
digits_stop most [] v h = refl
digits_stop most (x ∷ l) v h = rw (le-ltb (digit_of x) 10 h)

print_zero : (most : ℕ) (l : List ℕ) → num most (print_num 0 ++ l) ≡ got 0 l
unfolding num dec digit_of
print_zero most l = refl

-- A printed number is read back, with what follows it.
pub num_print : (most n : ℕ) (l : List ℕ) → n < 10 ^ 20 → n ≤ most → Stops l → num most (print_num n ++ l) ≡ got n l
num_print most zero l a b h = print_zero most l
num_print most (suc n) l a b h = num_dec most 20 (suc n) l a (omega arith) b ∙ digits_stop most l (suc n) h

-- ---- What was read is printed

digits_said : (most : ℕ) → most < 10 ^ 20 → (l : List ℕ) (v : ℕ) → 1 ≤ v → v ≤ most → After most (print_num v ++ l) (digits most l v)
unfolding digits
digits_said most lim [] v a b = (refl, b)
digits_said most lim (x ∷ l) v a b =
    let P : Part → Type 0 = After most (print_num v ++ (x ∷ l)) in
    let d = digit_of x in
    cond_by P (ltb d 10) (λ p. cond_by P (leb (v * 10 + d) most)
    (λ q. let h = ltb-true d 10 p in let k = leb-true (v * 10 + d) most q in
    subst (λ (t : List ℕ). After most t (digits most l (v * 10 + d)))
    (ap (λ (t : List ℕ). t ++ l) (print_more v d a h (omega arith)) ∙ (append_assoc (print_num v) ((48 + d) ∷ []) l ∙ ap (λ (y : ℕ). print_num v ++ (y ∷ l)) (sym (byte_digit x h))))
    (digits_said most lim l (v * 10 + d) (omega arith) k)) (λ _. tt)) (λ _. (refl, b))

-- A number that is read is printed by the bytes that it was read from.
pub num_said : (most : ℕ) → most < 10 ^ 20 → (l : List ℕ) → After most l (num most l)
unfolding num
num_said most lim [] = tt
num_said most lim (x ∷ l) =
    let P : Part → Type 0 = After most (x ∷ l) in
    let d = digit_of x in
    cond_by P (ltb d 10) (λ p. let h = ltb-true d 10 p in let e = byte_digit x h in
    cond_by P (eqb d 0) (λ z. (ap (λ (y : ℕ). y ∷ l) (e ∙ ap (λ (n : ℕ). 48 + n) (eqb-true d 0 z)) ∙ ap (λ (t : List ℕ). t ++ l) (sym (dec_one 19 0 (omega arith))), omega arith))
    (λ z. cond_by P (leb d most) (λ q. subst (λ (t : List ℕ). After most t (digits most l d))
    (ap (λ (t : List ℕ). t ++ l) (dec_one 19 d h) ∙ ap (λ (y : ℕ). y ∷ l) (sym e)) (digits_said most lim l d (pos d (eqb-false d 0 z)) (leb-true d most q))) (λ _. tt))) (λ _. tt)
  where
    pos : (d : ℕ) → (d ≡ 0 → ⊥) → 1 ≤ d
    pos d z = omega arith

-- A number below 10 ^ j has at most j digits.
pub dec_short : (k j n : ℕ) → n < 10 ^ j → 1 ≤ j → length (dec k n) ≤ j
unfolding dec
dec_short zero j n a b = omega arith
dec_short (suc k) zero n a b = absurd (omega arith)
dec_short (suc k) (suc j) n a b =
    by_ten n (λ h. rw (dec_one k n h) (omega arith))
    (λ h. rw (dec_many k n h, length-append) (let i = dec_short k j (n / 10) (omega (arith, pow-suc 10 j)) (one_up j n a h) in omega arith))
  where
    one_up : (j n : ℕ) → n < 10 ^ suc j → 10 ≤ n → 1 ≤ j
    one_up zero n a h = absurd (omega arith)
    one_up (suc j) n a h = omega arith
