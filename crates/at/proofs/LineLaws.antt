-- A word at a place of a line, and a flag, step by step, and what they say of it. Assumes nothing.
use Prim.Native.Nat.{ℕ, ◌+◌, ◌-◌, ◌≤◌, ◌<◌}
use mathlib.Core.Path.{◌≡◌, refl, sym, ap, ◌∙◌}
use mathlib.Core.Bool.{Bool, true, false, cond, ◌&&◌}
use mathlib.Core.List.{List, [], ◌∷◌, ◌++◌}
use native.Mathlib.Omega.{arith}
use lib.Dec.{eqb, leb-suc-suc, leb-suc-zero}
use Rattle.std.proofs.lemmas.Bool.Decides.{nat_tests}
use lib.ListN.{length, get_or, take, drop, drop_of_length-le, length-drop, length-append}
use lib.Seq.{drop-cons}
use lib.Pointwise.{pointwise}
use borrow.Author.Tests.{eq-eqb, ne_eqb, eqb-true}
use Rattle.text.proofs.Choice.{cond_by, absurd_bool}
use Rattle.at.specs.Lines.{starts, ends, flag_of}

-- two tests of bytes, in either order
eqb_sym : (x y : ℕ) → eqb x y ≡ eqb y x
eqb_sym x y = grind (arith, nat_tests)

-- a word is what a slice begins with, or all of it, by the tests of std
starts_is : (w l : List ℕ) → pointwise eqb w (take (length w) l) ≡ starts w l
unfolding starts
starts_is [] l = refl
starts_is (x ∷ w) [] = refl
starts_is (x ∷ w) (y ∷ l) = rw (starts_is w l, eqb_sym x y) (go (eqb y x) (starts w l))
  where
    go : (b p : Bool) → (b && p) ≡ cond b p false
    go true p = refl
    go false p = refl

ends_is : (w l : List ℕ) → pointwise eqb l w ≡ ends w l
unfolding ends starts
ends_is [] [] = refl
ends_is [] (y ∷ l) = sym (leb-suc-zero (length l))
ends_is (x ∷ w) [] = refl
ends_is (x ∷ w) (y ∷ l) = rw (leb-suc-suc (length l) (length w)) (go (eqb y x) _ _ (ends_is w l))
  where
    go : (b : Bool) {p : Bool} (s t : Bool) → p ≡ cond s t false → (b && p) ≡ cond (cond b s false) t false
    go true s t e = e
    go false s t e = refl

module _ (w l r : List ℕ) (b : Bool) (e : r ≡ l) where
  pub starts_by : b ≡ pointwise eqb w (take (length w) r) → b ≡ starts w l
  starts_by h = h ∙ rw e (starts_is w l)

  pub ends_by : b ≡ pointwise eqb r w → b ≡ ends w l
  ends_by h = h ∙ rw e (ends_is w l)

module _ (l : List ℕ) (i : ℕ) where
  pub flag_end : length l ≤ i → flag_of (drop i l) ≡ 2
  unfolding flag_of
  flag_end h = rw (drop_of_length-le l h)

  module _ (h : i < length l) where
    pub flag_0 : get_or l i 0 ≡ 48 → flag_of (drop i l) ≡ 0
    unfolding flag_of
    flag_0 e = rw (drop-cons l i 0 h, eq-eqb _ _ e)

    pub flag_1 : (get_or l i 0 ≡ 48 → ⊥) → get_or l i 0 ≡ 49 → flag_of (drop i l) ≡ 1
    unfolding flag_of
    flag_1 n e = rw (drop-cons l i 0 h, ne_eqb _ _ n, eq-eqb _ _ e)

    pub flag_2 : (get_or l i 0 ≡ 48 → ⊥) → (get_or l i 0 ≡ 49 → ⊥) → flag_of (drop i l) ≡ 2
    unfolding flag_of
    flag_2 n m = rw (drop-cons l i 0 h, ne_eqb _ _ n, ne_eqb _ _ m)

-- ---- What a word or a flag says of the line that it stands in

pub starts_word : (w l : List ℕ) → starts w l ≡ true → l ≡ w ++ drop (length w) l
unfolding starts
starts_word [] l e = refl
starts_word (x ∷ w) [] e = absurd_bool e
starts_word (x ∷ w) (y ∷ l) e =
    let ih = starts_word w l in
    cond_by (λ (r : Bool). r ≡ true → y ∷ l ≡ x ∷ (w ++ drop (length w) l)) (eqb y x)
    {x = starts w l} {y = false}
    (λ p q. let a = eqb-true y x p in let b = ih q in cc) (λ p q. absurd_bool q) e

pub flag_word : (l : List ℕ) → flag_of l < 2 → l ≡ (48 + flag_of l) ∷ drop 1 l
unfolding flag_of
flag_word [] h = absurd (omega arith)
flag_word (x ∷ l) h =
    let P : ℕ → Type 0 = λ n. n < 2 → x ∷ l ≡ (48 + n) ∷ l in
    cond_by P (eqb x 48) (λ p _. let e = eqb-true x 48 p in cc) (λ _.
    cond_by P (eqb x 49) (λ p _. let e = eqb-true x 49 p in cc) (λ _ k. absurd (omega arith))) h

-- there are as many bytes left as the word has
pub starts_in : (w l : List ℕ) (i : ℕ) → starts w (drop i l) ≡ true → length w ≤ length l - i
starts_in w l i e =
    let h = simp (length-append, length-drop) at (ap length (starts_word w (drop i l) e)) in
    omega arith

-- a flag is a byte
pub flag_in : (l : List ℕ) (i f : ℕ) → f ≡ flag_of (drop i l) → f ≤ 1 → i < length l
flag_in l i f e h =
    let k = simp length-drop at (ap length (flag_word (drop i l) (omega arith))) in
    omega arith
