-- A blank buffer that is filled part by part is a new state laid out. Assumes nothing.
use mathlib.Core.Path.{◌≡◌, refl, sym, ap, ◌∙◌}
use mathlib.Core.List.{List, [], ◌∷◌, ◌++◌, map}
use Prim.Native.Nat.{ℕ, ◌+◌, ◌/◌, ◌%◌, ◌^◌, ◌≤◌, ◌<◌}
use native.Mathlib.Omega.{arith}
use lib.Dec.{lit<, lit≤}
use lib.ListN.{length, get_or, set, replicate, length-replicate, replicate-append-replicate}
use lib.Seq.{take_all}
use Rattle.rules.specs.State.{fresh}
use Rattle.buffer.specs.Places.{SIZE, CURRENT, LETTERS, INTERVALS, PARAMETERS, HOUSE, RATES, COUNTERS}
use Rattle.buffer.specs.Segments.{concat, off, pad, paste}
use Rattle.buffer.specs.Layout.{letters, segments, spread, lay}
use Rattle.buffer.proofs.Segments.{spelled, spell, paste_seg, width_set}
use Rattle.buffer.proofs.Laying.{paste_whole, length_pad}
use Rattle.opening.specs.Open.{Order, begun}

-- the parts as they are filled: places 0-9, intervals, parameters, house limits, rates, 31-43,
-- counters, lengths, lists, due time
abbrev parts : List ℕ
parts = 10 ∷ 10 ∷ 6 ∷ 2 ∷ 3 ∷ 13 ∷ 6 ∷ 5 ∷ 1275 ∷ 1 ∷ []

record Cut (b : List ℕ) (segs : List (List ℕ)) : Type 0 where
  wide : map length segs ≡ parts
  is : b ≡ concat segs

abbrev zeroed : List ℕ → List (List ℕ)
zeroed ws = map (λ w. replicate w 0) ws

zeroed_wide : (ws : List ℕ) → map length (zeroed ws) ≡ ws
zeroed_wide [] = refl
zeroed_wide (w ∷ ws) = λ i. length-replicate {A = ℕ} w 0 i ∷ zeroed_wide ws i

zeroed_is : (ws : List ℕ) → concat (zeroed ws) ≡ replicate (off ws (length ws)) 0
unfolding concat
zeroed_is [] = refl
zeroed_is (w ∷ ws) = ap (λ (l : List ℕ). replicate w 0 ++ l) (zeroed_is ws) ∙ replicate-append-replicate w (off ws (length ws)) 0

blank_cut : {b : List ℕ} → b ≡ replicate SIZE 0 → Cut b (zeroed parts)
blank_cut e = record { wide = zeroed_wide parts; is = e ∙ sym (zeroed_is parts) }

-- part k is replaced by y
module _ {b : List ℕ} {segs : List (List ℕ)} (c : Cut b segs) (k : ℕ) (y : List ℕ) (ten : k < 10) (h : length y ≡ get_or parts k 0) (short : length (get_or segs k []) ≤ length y) where
  whole : {x : List ℕ} → x ≡ paste b (off parts k + 0) y → Cut x (set segs k y)
  whole e = record {
    wide = width_set segs parts c.wide k y h;
    is =
        e
        ∙ ap (λ (l : List ℕ). paste l (off parts k + 0) y) c.is
        ∙ paste_seg segs parts c.wide k 0 y (omega arith) ten
        ∙ ap (λ (l : List ℕ). concat (set segs k l)) (paste_whole (get_or segs k []) y short);
  }

rows_zero : replicate 1275 0 ≡ concat (map (pad 255) ([] ∷ [] ∷ [] ∷ [] ∷ [] ∷ []))
unfolding pad
rows_zero = sym (zeroed_is (255 ∷ 255 ∷ 255 ∷ 255 ∷ 255 ∷ []))

-- a list number by number
pub spell_all : (l : List ℕ) (n : ℕ) → length l ≡ n → l ≡ spelled l 0 n
spell_all l n h = sym (take_all n l (omega (arith, h))) ∙ spell l 0 n (omega (arith, h))

module _ (o : Order) (few : length o.intervals ≤ 10) where
  abbrev head : List ℕ
  head = letters ∷ CURRENT ∷ o.time ∷ o.time ∷ o.imsi / 2 ^ 32 ∷ o.imsi % 2 ^ 32 ∷ o.nfm ∷ 0 ∷ o.rpm ∷ length o.intervals ∷ []

  pub filled : (p r k : List ℕ) → length p ≡ 6 → length r ≡ 3 → length k ≡ 6 → {b0 b1 b2 b3 b4 : List ℕ}
      → b0 ≡ replicate SIZE 0
      → b1 ≡ paste b0 LETTERS head
      → b2 ≡ paste b1 INTERVALS (pad 10 o.intervals)
      → b3 ≡ paste (paste (paste b2 PARAMETERS p) HOUSE (o.A1 ∷ o.S1 ∷ [])) RATES r
      → b4 ≡ paste b3 COUNTERS k
      → b4 ≡ lay (begun o p r k)
  unfolding concat spread segments begun fresh
  filled p r k pl rl kl e0 e1 e2 e3 e4 =
      let il = length_pad 10 o.intervals few in
      let c1 = whole (blank_cut e0) 0 head (lit< tt) refl (lit≤ tt) e1 in
      let c2 = whole c1 1 (pad 10 o.intervals) (lit< tt) il (omega arith) e2 in
      let c3 = whole c2 2 p (lit< tt) pl (omega arith) refl in
      let c4 = whole c3 3 (o.A1 ∷ o.S1 ∷ []) (lit< tt) refl (lit≤ tt) refl in
      let c5 = whole c4 4 r (lit< tt) rl (omega arith) e3 in
      let c6 = whole c5 6 k (lit< tt) kl (omega arith) e4 in
      c6.is
      ∙ (λ i. concat (head ∷ pad 10 o.intervals ∷ spell_all p 6 pl i ∷ (o.A1 ∷ o.S1 ∷ []) ∷ spell_all r 3 rl i ∷ replicate 13 0 ∷ spell_all k 6 kl i ∷ replicate 5 0 ∷ rows_zero i ∷ (0 ∷ []) ∷ []))
