-- Numbers stored one after the other, from a place on. Assumes nothing.
use mathlib.Core.Path.{◌≡◌, sym, ap, ◌∙◌}
use mathlib.Core.List.{List, ◌++◌, append_assoc}
use Prim.Native.Nat.{ℕ, ◌+◌, ◌-◌, ◌≤◌, ◌<◌}
use native.Mathlib.Omega.{arith}
use native.Mathlib.Numerals.{add-one}
use borrow.Rule.Slice.PartMut.{put_mid, mid_of, take_put}
use Rattle.std.proofs.lemmas.List.{drop-append-le, drop-replicate}
use lib.ListN.{length, get_or, take, drop, set, replicate, length-replicate, length-drop}
use lib.Seq.{length-take-le, sets, sets-eq, paste-suc, drop_at, drop-drop}
use lib.Seq as seq
use Rattle.buffer.specs.Segments.{pad, paste}
use Rattle.buffer.proofs.Laying.{length_pad}

-- stores of known numbers, one after the other
pub stored : (b y : List ℕ) (a : ℕ) → a + length y ≤ length b → sets b a y ≡ paste b a y
unfolding paste
stored b y a h = sets-eq y b a h ∙ append_assoc (take a b) y (drop (a + length y) b)

-- a turn of a loop that copies y from its start, and its end after n turns
module _ (b y : List ℕ) (a : ℕ) where
  pub copy_next : (i : ℕ) → a + i < length b → i < length y → set (seq.paste b a y i) (a + i) (get_or y i 0) ≡ seq.paste b a y (i + 1)
  copy_next i h l = rw add-one (paste-suc b a y i 0 h l)

  pub copy_end : (n : ℕ) → n ≤ length y → seq.paste b a y n ≡ paste b a (take n y)
  unfolding paste
  copy_end n h = rw (length-take-le n y h) (append_assoc (take a b) (take n y) (drop (a + n) b))

-- n places from a on that are filled with zeros, and then a list copied to the first of them
pub padded : (b l : List ℕ) (a n : ℕ) → a + n ≤ length b → length l ≤ n → {z : List ℕ} → z ≡ replicate (length (mid_of a n b)) 0
    → put_mid a (a + length l - a) (put_mid a n b z) l ≡ paste b a (pad n l)
unfolding paste pad
padded b l a n fits few {z} k =
    let e : z ≡ replicate n 0 = k ∙ ap (λ (i : ℕ). replicate i 0) (length-take-le n (drop a b) (omega (arith, length-drop a b))) in
    let m = length l in
    let c = replicate n 0 ++ drop n (drop a b) in
    let before : take a (take a b ++ c) ≡ take a b = take_put a n b (replicate n 0) (omega arith) in
    let at : drop a (take a b ++ c) ≡ c = drop_at (take a b) c a (length-take-le a b (omega arith)) in
    let after : drop m c ≡ replicate (n - m) 0 ++ drop n (drop a b) = drop-append-le m (replicate n 0) (drop n (drop a b)) (omega (arith, length-replicate {A = ℕ} n 0)) ∙ ap (λ (x : List ℕ). x ++ drop n (drop a b)) (drop-replicate m n 0) in
    let tail : drop n (drop a b) ≡ drop (a + length (pad n l)) b = drop-drop n a b ∙ ap (λ (k : ℕ). drop (a + k) b) (sym (length_pad n l few)) in
    let k : a + m - a ≡ m = omega arith in
    rw (k, e, before, at, after)
    (ap (λ (x : List ℕ). take a b ++ x) (sym (append_assoc l (replicate (n - m) 0) (drop n (drop a b))) ∙ ap (λ (x : List ℕ). pad n l ++ x) tail))
