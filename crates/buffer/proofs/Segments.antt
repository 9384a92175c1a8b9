-- Reading, writing and replacing in a list of segments. Assumes nothing.
use mathlib.Core.Path.{◌≡◌, refl, sym, ap, ◌∙◌}
use mathlib.Core.List.{List, [], ◌∷◌, ◌++◌, map, append_assoc}
use Prim.Native.Nat.{ℕ, zero, suc, ◌+◌, ◌≤◌, ◌<◌}
use native.Mathlib.Nat.{zero-add, suc-add, add_assoc, not-suc-le-zero}
use native.Mathlib.Omega.{arith}
use lib.ListN.{length, get_or, take, drop, set, length-append, length-take, length-drop, get_or-append, get_or-map, length-map, take-append-drop, drop_of_length-le}
use lib.Seq.{take-add, take-append-le, drop-append-le, take-append-add, drop-append-add, get_or-append-add, set-append_left, set-get_or, drop-nil, drop-drop, drop-cons, get_or-take, get_or-drop}
use Rattle.buffer.specs.Segments.{concat, off, part, paste}

pub set_append_add : (xs ys : List ℕ) (i a : ℕ) → set (xs ++ ys) (length xs + i) a ≡ xs ++ set ys i a
set_append_add [] ys i a = rw zero-add
set_append_add (x ∷ xs) ys i a = rw suc-add (ap {B = List ℕ} (λ r. x ∷ r) (set_append_add xs ys i a))

length_segs : (segs : List (List ℕ)) → length (concat segs) ≡ off (map length segs) (length (map length segs))
unfolding concat
length_segs [] = refl
length_segs (x ∷ xs) = length-append x (concat xs) ∙ ap (λ (n : ℕ). length x + n) (length_segs xs)

-- a place of segment k: read
get_or_segs : (segs : List (List ℕ)) (k i : ℕ) → i < length (get_or segs k []) → get_or (concat segs) (off (map length segs) k + i) 0 ≡ get_or (get_or segs k []) i 0
unfolding concat
get_or_segs [] k i h = absurd (not-suc-le-zero h)
get_or_segs (x ∷ xs) zero i h = rw zero-add (get_or-append x (concat xs) 0 i h)
get_or_segs (x ∷ xs) (suc k) i h = rw add_assoc (get_or-append-add x (concat xs) (off (map length xs) k + i) 0 ∙ get_or_segs xs k i h)

-- a place of segment k: written
set_segs : (segs : List (List ℕ)) (k i a : ℕ) → i < length (get_or segs k [])
    → set (concat segs) (off (map length segs) k + i) a ≡ concat (set segs k (set (get_or segs k []) i a))
unfolding concat
set_segs [] k i a h = absurd (not-suc-le-zero h)
set_segs (x ∷ xs) zero i a h = rw zero-add (set-append_left x (concat xs) i a h)
set_segs (x ∷ xs) (suc k) i a h =
    rw add_assoc (set_append_add x (concat xs) (off (map length xs) k + i) a ∙ ap {B = List ℕ} (λ r. x ++ r) (set_segs xs k i a h))

-- n numbers of segment k, from its place i on: read
part_segs : (segs : List (List ℕ)) (k i n : ℕ) → i + n ≤ length (get_or segs k []) → part (concat segs) (off (map length segs) k + i) n ≡ part (get_or segs k []) i n
unfolding concat
part_segs [] k i n h = ap {B = List ℕ} (λ r. take n r) (drop-nil (off [] k + i) ∙ sym (drop-nil i))
part_segs (x ∷ xs) zero i n h =
    rw (zero-add, drop-append-le i x (concat xs) (omega arith)) (take-append-le n (drop i x) (concat xs) (simp length-drop (omega arith)))
part_segs (x ∷ xs) (suc k) i n h = rw (add_assoc, drop-append-add) (part_segs xs k i n h)

-- numbers of segment k, from its place i on: replaced by as many
paste_segs : (segs : List (List ℕ)) (k i : ℕ) (y : List ℕ) → i + length y ≤ length (get_or segs k [])
    → k < length segs → paste (concat segs) (off (map length segs) k + i) y ≡ concat (set segs k (paste (get_or segs k []) i y))
unfolding concat paste
paste_segs [] k i y h l = absurd (not-suc-le-zero l)
paste_segs (x ∷ xs) zero i y h l =
    rw (zero-add, take-append-le i x (concat xs) (omega arith), drop-append-le (i + length y) x (concat xs) h)
    (simp append_assoc)
paste_segs (x ∷ xs) (suc k) i y h l =
    rw (add_assoc (length x) (off (map length xs) k) i, take-append-add, add_assoc, drop-append-add)
    (append_assoc x _ _ ∙ ap {B = List ℕ} (λ r. x ++ r) (paste_segs xs k i y h (omega arith)))

pub map-set {ℓ} : {A B : Type ℓ} (f : A → B) (l : List A) (k : ℕ) (a : A) → map f (set l k a) ≡ set (map f l) k (f a)
map-set f [] k a = refl
map-set f (x ∷ xs) zero a = refl
map-set {B = B} f (x ∷ xs) (suc k) a = ap {B = List B} (λ r. f x ∷ r) (map-set f xs k a)

-- The same four, at widths that are known
module _ (segs : List (List ℕ)) (ws : List ℕ) (e : map length segs ≡ ws) where
  width : (k : ℕ) → length (get_or segs k []) ≡ get_or ws k 0
  width k = sym (get_or-map length segs k []) ∙ ap (λ (l : List ℕ). get_or l k 0) e

  -- a segment replaced by one of its width
  pub width_set : (k : ℕ) (y : List ℕ) → length y ≡ get_or ws k 0 → map length (set segs k y) ≡ ws
  width_set k y h =
      map-set length segs k y
      ∙ ap (λ (l : List ℕ). set l k (length y)) e
      ∙ ap (λ (n : ℕ). set ws k n) h
      ∙ set-get_or ws k 0

  pub get_or_seg : (k i : ℕ) → i < get_or ws k 0 → get_or (concat segs) (off ws k + i) 0 ≡ get_or (get_or segs k []) i 0
  get_or_seg k i h = rw (← e) (get_or_segs segs k i (omega (arith, width k)))

  pub set_seg : (k i a : ℕ) → i < get_or ws k 0 → set (concat segs) (off ws k + i) a ≡ concat (set segs k (set (get_or segs k []) i a))
  set_seg k i a h = rw (← e) (set_segs segs k i a (omega (arith, width k)))

  pub part_seg : (k i n : ℕ) → i + n ≤ get_or ws k 0 → part (concat segs) (off ws k + i) n ≡ part (get_or segs k []) i n
  part_seg k i n h = rw (← e) (part_segs segs k i n (omega (arith, width k)))

  pub paste_seg : (k i : ℕ) (y : List ℕ) → i + length y ≤ get_or ws k 0 → k < length ws
      → paste (concat segs) (off ws k + i) y ≡ concat (set segs k (paste (get_or segs k []) i y))
  paste_seg k i y h l = rw (← e) (paste_segs segs k i y (omega (arith, width k)) (omega (arith, length-map segs length, ap length e)))

  pub length_seg : length (concat segs) ≡ off ws (length ws)
  length_seg = rw (← e) (length_segs segs)

-- a list, cut at given widths, from a place on
abbrev pub pieces : List ℕ → ℕ → List ℕ → List (List ℕ)
pieces [] at b = []
pieces (w ∷ ws) at b = part b at w ∷ pieces ws (at + w) b

pub concat_pieces : (ws : List ℕ) (at : ℕ) (b : List ℕ) → at + off ws (length ws) ≡ length b → concat (pieces ws at b) ≡ drop at b
unfolding concat
concat_pieces [] at b h = sym (drop_of_length-le b {i = at} (omega arith))
concat_pieces (w ∷ ws) at b h =
    ap {B = List ℕ} (λ r. part b at w ++ r) (concat_pieces ws (at + w) b (omega arith) ∙ sym (drop-drop w at b))
    ∙ take-append-drop w (drop at b)

pub concat_part : (ws : List ℕ) (at : ℕ) (b : List ℕ) → concat (pieces ws at b) ≡ part b at (off ws (length ws))
unfolding concat
concat_part [] at b = refl
concat_part (w ∷ ws) at b =
    let n = off ws (length ws) in
    ap {B = List ℕ} (λ r. part b at w ++ r) (concat_part ws (at + w) b ∙ ap {B = List ℕ} (λ r. take n r) (sym (drop-drop w at b)))
    ∙ sym (take-add w n (drop at b))

-- a part, number by number
abbrev pub spelled : List ℕ → ℕ → ℕ → List ℕ
spelled b at zero = []
spelled b at (suc n) = get_or b at 0 ∷ spelled b (suc at) n

pub spell : (b : List ℕ) (at n : ℕ) → at + n ≤ length b → part b at n ≡ spelled b at n
spell b at zero h = refl
spell b at (suc n) h =
    rw (drop-cons b at 0 (omega arith)) (ap {B = List ℕ} (λ r. get_or b at 0 ∷ r) (spell b (suc at) n (omega arith)))

pub length_part : (b : List ℕ) (at n : ℕ) → at + n ≤ length b → length (part b at n) ≡ n
length_part b at n h = simp (length-take, length-drop) (omega arith)

-- a number of a part
pub part_at : (b : List ℕ) (a n i : ℕ) → i < n → get_or (part b a n) i 0 ≡ get_or b (a + i) 0
part_at b a n i h = get_or-take n (drop a b) i 0 h ∙ get_or-drop a b i 0
