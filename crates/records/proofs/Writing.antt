-- A record written part by part, and compared. Assumes nothing.
use mathlib.Core.Path.{◌≡◌, refl, ap, ◌∙◌}
use mathlib.Core.Bool.{Bool, ◌&&◌}
use mathlib.Core.List.{List, [], ◌∷◌, ◌++◌, append_assoc}
use Prim.Native.Nat.{ℕ, zero, suc, ◌+◌, ◌-◌, ◌*◌, ◌≤◌}
use native.Mathlib.Omega.{arith}
use lib.Dec.{eqb}
use lib.ListN.{length, take, drop, set, replicate, length-append}
use lib.Seq.{take_at, drop_at}
use Rattle.std.specs.Cmp.Lexicographic.{pointwise}
use Rattle.rules.specs.declared.Answer.{Answer}
use Rattle.image.specs.Image.{image_of}
use Rattle.image.proofs.Returns.{image_length}
use Rattle.calls.specs.Letters.{letter_a}
use Rattle.records.specs.Records.{types, packed, encoded, same}

-- ---- A room of zeros, written part by part

drop_zeros : (n m : ℕ) → ◌≡◌ {A = List ℕ} (drop n (replicate m 0)) (replicate (m - n) 0)
drop_zeros zero m = let e : m ≡ m - 0 = omega arith in ap (λ (k : ℕ). replicate k 0) e
drop_zeros (suc n) zero = let e : 0 ≡ 0 - suc n = omega arith in ap (λ (k : ℕ). replicate k 0) e
drop_zeros (suc n) (suc m) = let e : m - n ≡ suc m - suc n = omega arith in drop_zeros n m ∙ ap (λ (k : ℕ). replicate k 0) e

-- y stored behind xs, where only zeros stood
next_part : (xs y room x : List ℕ) (k n m : ℕ) → length xs ≡ k → room ≡ xs ++ replicate m 0
    → x ≡ take k room ++ (y ++ drop n (drop k room)) → x ≡ (xs ++ y) ++ replicate (m - n) 0
next_part xs y room x k n m e z s = s ∙ rw (z, take_at xs (replicate m 0) k e, drop_at xs (replicate m 0) k e, drop_zeros n m, append_assoc)

-- a letter, in a room of zeros
pub first_part : (x : ℕ) (room : List ℕ) → room ≡ replicate 128 0 → set room 0 x ≡ (x ∷ []) ++ replicate 127 0
first_part x room e = rw e

-- behind the letter and the call's bytes the answer makes it a record
packed_parts : (x : ℕ) (body : List ℕ) (a : Answer) → length body ≤ 118 → (z : List ℕ)
    → z ≡ ((x ∷ body) ++ image_of (a.number ∷ a.second ∷ [])) ++ replicate (127 - length body - 8) 0 → z ≡ packed x body a
unfolding packed
packed_parts x body a h z e =
    let n : 127 - length body - 8 ≡ 119 - length body = omega arith in
    e ∙ rw n (append_assoc (x ∷ body) (image_of (a.number ∷ a.second ∷ [])) (replicate (119 - length body) 0))

module _ (l : List ℕ) (a : Answer) (room p q : List ℕ) (zeros : room ≡ replicate 128 0) where
  -- a letter and numbers
  pub spelling : (x : ℕ) → length l ≤ 5
      → p ≡ take 1 (set room 0 x) ++ (image_of l ++ drop (4 * length l) (drop 1 (set room 0 x)))
      → q ≡ take (1 + 4 * length l) p ++ (image_of (a.number ∷ a.second ∷ []) ++ drop 8 (drop (1 + 4 * length l) p))
      → q ≡ packed x (image_of l) a
  spelling x few e f =
      let i = image_length l in
      let p-is = next_part (x ∷ []) (image_of l) (set room 0 x) p 1 (4 * length l) 127 refl (first_part x room zeros) e in
      let q-is = next_part (x ∷ image_of l) (image_of (a.number ∷ a.second ∷ [])) p q (1 + 4 * length l) 8 (127 - 4 * length l) (omega arith) p-is f in
      packed_parts x (image_of l) a (omega arith) q (rw i q-is)

  -- an AT line's length, its bytes, the answer
  pub spelling_line : (r : List ℕ) → length l ≤ 96
      → p ≡ take 1 (set room 0 letter_a) ++ (image_of (length l ∷ []) ++ drop 4 (drop 1 (set room 0 letter_a)))
      → q ≡ take 5 p ++ (l ++ drop (length l) (drop 5 p))
      → r ≡ take (5 + length l) q ++ (image_of (a.number ∷ a.second ∷ []) ++ drop 8 (drop (5 + length l) q))
      → r ≡ encoded (types l) a
  unfolding encoded
  spelling_line r few e f g =
      let size : List ℕ = image_of (length l ∷ []) in
      let i : length size ≡ 4 = image_length (length l ∷ []) in
      let both : length (size ++ l) ≡ 4 + length l = simp length-append (omega arith) in
      let n : 123 - length l - 8 ≡ 127 - (4 + length l) - 8 = omega arith in
      let p-is = next_part (letter_a ∷ []) size (set room 0 letter_a) p 1 4 127 refl (first_part letter_a room zeros) e in
      let q-is = next_part (letter_a ∷ size) l p q 5 (length l) 123 (omega arith) p-is f in
      let r-is = next_part (letter_a ∷ (size ++ l)) (image_of (a.number ∷ a.second ∷ [])) q r (5 + length l) 8 (123 - length l) (omega arith) q-is g in
      packed_parts letter_a (size ++ l) a (omega arith) r (rw (both, ← n) r-is)

-- ---- Two records

-- std's comparison of two lists is the definition's
pub same_is : (a b : List ℕ) → pointwise eqb a b ≡ same a b
unfolding same
same_is [] [] = refl
same_is [] (y ∷ b) = refl
same_is (x ∷ a) [] = refl
same_is (x ∷ a) (y ∷ b) = ap (λ (rest : Bool). eqb x y && rest) (same_is a b)
