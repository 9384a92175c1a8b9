-- A buffer's bytes, written and read a number at a time. Assumes nothing.
use mathlib.Core.Path.{◌≡◌, refl, sym, ap, ◌∙◌}
use mathlib.Core.List.{List, [], ◌∷◌, ◌++◌, append_assoc, append-nil}
use Prim.Native.Nat.{ℕ, zero, suc, ◌+◌, ◌-◌, ◌*◌, ◌/◌, ◌≤◌, ◌<◌}
use native.Mathlib.Numerals.{add-one}
use native.Mathlib.Omega.{arith}
use lib.ListN.{length-append, length, get_or, take, drop, set, drop_of_length-le}
use lib.Seq.{take_at, length-take-le, sets, sets-eq, take_all, take-suc-set, drop-cons, drop-drop, get_or-take, get_or-drop}
use borrow.Rule.Slice.PartMut.{put_mid}
use Rattle.std.specs.Simd.{first_chunks}
use Rattle.std.proofs.lemmas.Slice.{take-put_mid}
use Rattle.image.specs.Image.{four, number, image_of, numbers_of}

-- what was written, after a run of stores
pub front : (l : List ℕ) (i : ℕ) (v : List ℕ) → i + length v ≤ length l → take (i + length v) (sets l i v) ≡ take i l ++ v
front l i v h =
    ap (take (i + length v)) (sets-eq v l i h)
    ∙ take_at (take i l ++ v) (drop (i + length v) l) (i + length v) (rw (length-append, length-take-le i l (omega arith)))

-- the image of numbers that are left, by the first of them
image_step : (l : List ℕ) (i : ℕ) → i < length l → image_of (drop i l) ≡ four (get_or l i 0) ++ image_of (drop (i + 1) l)
unfolding image_of
image_step l i h = rw (add-one, drop-cons l i 0 h)

-- four bytes, and those after them
four_step : (l : List ℕ) (j : ℕ) → j + 4 ≤ length l → drop j l ≡ get_or l j 0 ∷ get_or l (j + 1) 0 ∷ get_or l (j + 2) 0 ∷ get_or l (j + 3) 0 ∷ drop (j + 4) l
four_step l j h =
    let p : j + 1 ≡ suc j = omega arith in
    let q : j + 2 ≡ suc (suc j) = omega arith in
    let r : j + 3 ≡ suc (suc (suc j)) = omega arith in
    let s : j + 4 ≡ suc (suc (suc (suc j))) = omega arith in
    rw (p, q, r, s) (cc (drop-cons l j 0 (omega arith), drop-cons l (suc j) 0 (omega arith), drop-cons l (suc (suc j)) 0 (omega arith), drop-cons l (suc (suc (suc j))) 0 (omega arith)))

-- the numbers of bytes that are left, by the first of them
numbers_step : (l : List ℕ) (j : ℕ) → j + 4 ≤ length l → numbers_of (drop j l) ≡ number (get_or l j 0) (get_or l (j + 1) 0) (get_or l (j + 2) 0) (get_or l (j + 3) 0) ∷ numbers_of (drop (j + 4) l)
unfolding numbers_of
numbers_step l j h = ap numbers_of (four_step l j h)

-- a turn of the loop that writes, and its end
module _ (l out : List ℕ) (i : ℕ) (so : take (4 * i) out ++ image_of (drop i l) ≡ image_of l) where
  pub write_next : (part : List ℕ) → i < length l → 4 * i ≤ length out → part ≡ four (get_or l i 0)
      → take (4 * (i + 1)) (put_mid (4 * i) (4 * i + 4 - 4 * i) out part) ++ image_of (drop (i + 1) l) ≡ image_of l
  write_next part h k e =
      let v : length part ≡ 4 = ap length e in
      let t : take (4 * (i + 1)) (put_mid (4 * i) (4 * i + 4 - 4 * i) out part) ≡ take (4 * i) out ++ part
      = take-put_mid (4 * i) (4 * i + 4 - 4 * i) out part (4 * (i + 1)) (omega arith) k in
      rw (t, append_assoc, e, ← image_step l i h) so

  pub write_end : length l ≤ i → length out ≤ 4 * i → out ≡ image_of l
  unfolding image_of
  write_end h k = sym (append-nil out) ∙ (rw (take_all (4 * i) out k, drop_of_length-le l {i = i} h) at so)

-- four bytes, as std cuts them out
chunk_at : (n i : ℕ) (l : List ℕ) → i < n → get_or (first_chunks 4 n l) i [] ≡ take 4 (drop (4 * i) l)
chunk_at zero i l h = absurd (omega arith)
chunk_at (suc n) zero l h = refl
chunk_at (suc n) (suc i) l h =
    let e : 4 * suc i ≡ 4 + 4 * i = omega arith in
    chunk_at n i (drop 4 l) (omega arith) ∙ ap (take 4) (rw e (drop-drop (4 * i) 4 l))

byte : (l : List ℕ) (j k : ℕ) → k < 4 → get_or (take 4 (drop j l)) k 0 ≡ get_or l (j + k) 0
byte l j k h = get_or-take 4 (drop j l) k 0 h ∙ get_or-drop j l k 0

-- the number of four bytes in a row
abbrev number_in : List ℕ → ℕ
number_in p = number (get_or p 0 0) (get_or p 1 0) (get_or p 2 0) (get_or p 3 0)

-- a turn of the loop that reads, and its end
module _ (bytes l : List ℕ) (i : ℕ) (so : take i l ++ numbers_of (drop (4 * i) bytes) ≡ numbers_of bytes) where
  pub read_next : (n : ℕ) (f : List (List ℕ)) → i < length l → length bytes ≡ 4 * length l → f ≡ first_chunks 4 (length bytes / 4) bytes → n ≡ number_in (get_or f i []) → take (i + 1) (set l i n) ++ numbers_of (drop (4 * (i + 1)) bytes) ≡ numbers_of bytes
  read_next n f h k g e =
      let j : ℕ = 4 * i in
      let s : 4 * (i + 1) ≡ j + 4 = omega arith in
      let c : get_or f i [] ≡ take 4 (drop j bytes) = ap (λ (f : List (List ℕ)). get_or f i []) g ∙ chunk_at (length bytes / 4) i bytes (omega arith) in
      let rest : List ℕ = numbers_of (drop (j + 4) bytes) in
      let p : List ℕ = take 4 (drop j bytes) in
      let q : n ≡ number_in p = e ∙ ap number_in c in
      let z : get_or p 0 0 ≡ get_or bytes j 0 = byte bytes j 0 (omega arith) ∙ ap (λ (k : ℕ). get_or bytes k 0) (omega arith) in
      let v : n ≡ number (get_or bytes j 0) (get_or bytes (j + 1) 0) (get_or bytes (j + 2) 0) (get_or bytes (j + 3) 0)
      = omega (arith, q, z, byte bytes j 1 (omega arith), byte bytes j 2 (omega arith), byte bytes j 3 (omega arith)) in
      rw (s, add-one, take-suc-set l i n h) (append_assoc (take i l) (n ∷ []) rest
      ∙ (ap (λ (t : List ℕ). take i l ++ t) (ap (λ (m : ℕ). m ∷ rest) v ∙ sym (numbers_step bytes j (omega arith))) ∙ so))

  pub read_end : length l ≤ i → length bytes ≤ 4 * i → l ≡ numbers_of bytes
  unfolding numbers_of
  read_end h k = sym (append-nil l) ∙ (rw (take_all i l h, drop_of_length-le bytes {i = 4 * i} k) at so)
