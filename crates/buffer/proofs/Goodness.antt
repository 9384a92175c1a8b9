-- A good buffer is a valid state laid out, and lays its own state out; a valid state is laid out as a good buffer. Assumes nothing.
use mathlib.Core.Path.{◌≡◌, refl, sym, ap, ◌∙◌, subst}
use mathlib.Core.Bool.{Bool, true, ◌&&◌}
use mathlib.Core.List.{List, [], ◌∷◌, ◌++◌, map}
use Prim.Native.Nat.{ℕ, zero, suc, ◌+◌, ◌-◌, ◌*◌, ◌^◌, ◌≤◌, ◌<◌, zero-le}
use native.Mathlib.Nat.{le_of_eq, mod-lt}
use native.Mathlib.Omega.{arith}
use borrow.Author.Tests.{leb-true, ltb-true, eqb-true, le-leb, eq-eqb, lt-ltb}
use lib.Dec.{lit<, lit≤, leb, ltb, eqb}
use lib.Arith.{digits_div, digits_mod}
use lib.ListN.{length, get_or, take, drop, replicate, length-take, length-drop, take-append-drop, get_or-map}
use lib.Seq.{take-take, take_all, drop-append_seam}
use Rattle.rules.specs.State.{State, Facts}
use Rattle.buffer.specs.Places.{SIZE, CURRENT, VERSION, REMAINDER, COUNT, INTERVALS, LENGTHS, LISTS}
use Rattle.buffer.specs.Segments.{concat, part, pad}
use Rattle.buffer.specs.Layout.{widths, segments, spread, lay, rows, row, facts_of, view}
use Rattle.buffer.specs.Good.{every, at_most, zeros, bytes, unused, Shape, count_good, imsi_good, intervals_good, list_good, row_good, lines, good, fits, values, valid}
use Rattle.rules.proofs.Checks.{and_left, and_right}
use Rattle.buffer.proofs.Tests.{pick, passed}
use Rattle.buffer.proofs.Segments.{pieces, concat_pieces, concat_part, spelled, spell, length_part, part_at}
use Rattle.buffer.proofs.Laying.{Shaped, length_pad, length_lay, get, cut, places_at, count_at, view_lay}

-- ---- Unused places

pub each_at_most : (hi : ℕ) (l : List ℕ) → at_most hi l ≡ true → (i : ℕ) → get_or l i 0 ≤ hi
unfolding at_most
each_at_most hi [] h i = zero-le
each_at_most hi (x ∷ l) h zero = leb-true x hi (and_left (leb x hi) (at_most hi l) h)
each_at_most hi (x ∷ l) h (suc i) = each_at_most hi l (and_right (leb x hi) (at_most hi l) h) i

-- n places from p that are bytes
pub byte_low : (b : List ℕ) (p n : ℕ) → bytes (part b p n) ≡ true → (i : ℕ) → i < n → get_or b (p + i) 0 ≤ 255
byte_low b p n h i l = rw (part_at b p n i l) at (each_at_most 255 (part b p n) h i)

pub zeros_replicate : (l : List ℕ) → zeros l ≡ true → l ≡ replicate (length l) 0
unfolding at_most
zeros_replicate [] h = refl
zeros_replicate (x ∷ xs) h =
    let z : x ≡ 0 = omega (arith, leb-true x 0 (and_left (leb x 0) (zeros xs) h)) in
    λ i. z i ∷ zeros_replicate xs (and_right (leb x 0) (zeros xs) h) i

-- a part of w places whose first n are used and whose others are 0
pad_take : (w n : ℕ) (p : List ℕ) → length p ≡ w → n ≤ w → zeros (unused n p) ≡ true → pad w (take n p) ≡ p
unfolding pad
pad_take w n p e few h =
    let rest : w - length (take n p) ≡ length (drop n p) = simp (length-take, length-drop) (omega arith) in
    ap {B = List ℕ} (λ r. take n p ++ r) (ap {B = List ℕ} (λ k. replicate k 0) rest ∙ sym (zeros_replicate (drop n p) h)) ∙ take-append-drop n p

zeros_of : (n : ℕ) → zeros (replicate n 0) ≡ true
unfolding at_most
zeros_of zero = refl
zeros_of (suc n) = zeros_of n

unused_pad : (w : ℕ) (l : List ℕ) → zeros (unused (length l) (pad w l)) ≡ true
unfolding pad
unused_pad w l = rw (drop-append_seam l (replicate (w - length l) 0)) (zeros_of (w - length l))

-- ---- A buffer that has the shape

module _ (b : List ℕ) (h : Shape b) where
  -- n numbers in use, in a part of w places
  module _ (at w n : ℕ) (fits : at + w ≤ SIZE) (few : n ≤ w) where
    used : length (part b at n) ≡ n
    used = length_part b at n (omega (arith, h.long))

    pad_part : zeros (unused n (part b at w)) ≡ true → pad w (part b at n) ≡ part b at w
    pad_part z = ap (pad w) (sym (take-take n w (drop at b) few)) ∙ pad_take w n (part b at w) (length_part b at w (omega (arith, h.long))) few z

  pub interval_count : length (part b INTERVALS (get_or b COUNT 0)) ≡ get_or b COUNT 0
  interval_count = used 10 10 (get_or b COUNT 0) (lit≤ tt) h.few

  module _ (k : ℕ) (l : k < 5) where
    pub row_count : length (row b k) ≡ get_or b (LENGTHS + k) 0
    row_count = used (LISTS + 255 * k) 255 (get_or b (LENGTHS + k) 0) (omega arith) (h.short k l)

    row_short : length (row b k) ≤ 255
    row_short = omega (arith, row_count, h.short k l)

    row_pad : pad 255 (row b k) ≡ part b (LISTS + 255 * k) 255
    row_pad = pad_part (LISTS + 255 * k) 255 (get_or b (LENGTHS + k) 0) (omega arith) (h.short k l) (h.clear k l)

  rows_short : (k : ℕ) → length (get_or (row b 0 ∷ row b 1 ∷ row b 2 ∷ row b 3 ∷ row b 4 ∷ []) k []) ≤ 255
  rows_short zero = row_short 0 (lit< tt)
  rows_short (suc zero) = row_short 1 (lit< tt)
  rows_short (suc (suc zero)) = row_short 2 (lit< tt)
  rows_short (suc (suc (suc zero))) = row_short 3 (lit< tt)
  rows_short (suc (suc (suc (suc zero)))) = row_short 4 (lit< tt)
  rows_short (suc (suc (suc (suc (suc k))))) = zero-le

  pub shaped : Shaped (facts_of b) (rows (view b).lists)
  unfolding facts_of
  shaped = record {
    intervals = omega (arith, interval_count, h.few);
    failures = length_part b 31 4 (omega (arith, h.long));
    ends = length_part b 35 4 (omega (arith, h.long));
    standing = length_part b 39 4 (omega (arith, h.long));
    counters = length_part b 44 6 (omega (arith, h.long));
    five = refl;
    short = rows_short;
  }

  -- n numbers as they stand in the buffer
  spelt : (at n : ℕ) → at + n ≤ SIZE → spelled b at n ≡ part b at n
  spelt at n fits = sym (spell b at n (omega (arith, h.long)))

  counts_part : map length (rows (view b).lists) ≡ part b LENGTHS 5
  counts_part =
      (λ i. row_count 0 (lit< tt) i ∷ row_count 1 (lit< tt) i ∷ row_count 2 (lit< tt) i ∷ row_count 3 (lit< tt) i ∷ row_count 4 (lit< tt) i ∷ []) ∙ spelt 50 5 (lit≤ tt)

  rows_part : concat (map (pad 255) (rows (view b).lists)) ≡ part b LISTS 1275
  rows_part =
      ap concat (λ i. row_pad 0 (lit< tt) i ∷ row_pad 1 (lit< tt) i ∷ row_pad 2 (lit< tt) i ∷ row_pad 3 (lit< tt) i ∷ row_pad 4 (lit< tt) i ∷ [])
      ∙ concat_part (255 ∷ 255 ∷ 255 ∷ 255 ∷ 255 ∷ []) 55 b

  same : segments (facts_of b) (rows (view b).lists) ≡ pieces widths 0 b
  unfolding segments facts_of
  same =
      λ i.
      ((λ j. sym h.lettered j ∷ []) ∙ spelt 0 1 (lit≤ tt)) i
      ∷ ((λ j. sym h.version j ∷ []) ∙ spelt 1 1 (lit≤ tt)) i
      ∷ spelt 2 2 (lit≤ tt) i
      ∷ ((λ j. digits_div (get_or b 4 0) h.low j ∷ digits_mod (get_or b 4 0) h.low j ∷ []) ∙ spelt 4 2 (lit≤ tt)) i
      ∷ spelt 6 3 (lit≤ tt) i
      ∷ ((λ j. interval_count j ∷ []) ∙ spelt 9 1 (lit≤ tt)) i
      ∷ pad_part 10 10 (get_or b COUNT 0) (lit≤ tt) h.few h.spare i
      ∷ spelt 20 6 (lit≤ tt) i
      ∷ spelt 26 2 (lit≤ tt) i
      ∷ spelt 28 3 (lit≤ tt) i
      ∷ part b 31 4
      ∷ part b 35 4
      ∷ part b 39 4
      ∷ spelt 43 1 (lit≤ tt) i
      ∷ part b 44 6
      ∷ counts_part i
      ∷ rows_part i
      ∷ spelt 1330 1 (lit≤ tt) i
      ∷ []

  pub lay_view : lay (view b) ≡ b
  unfolding spread
  lay_view = ap concat same ∙ concat_pieces widths 0 b (sym h.long)

-- what is laid out has the shape
module _ (f : Facts) (rs : List (List ℕ)) (s : Shaped f rs) where
  row_whole : (k : ℕ) → k < 5 → part (spread f rs) (LISTS + 255 * k) 255 ≡ pad 255 (get_or rs k [])
  row_whole k h = places_at f rs s k 255 h (lit≤ tt) ∙ take_all 255 (pad 255 (get_or rs k [])) (le_of_eq (length_pad 255 (get_or rs k []) (s.short k)))

  pub shape_lay : Shape (spread f rs)
  unfolding segments
  shape_lay =
      let l = f.mode.intervals in
      let count : get_or (spread f rs) COUNT 0 ≡ length l = get f rs s 5 0 (lit< tt) in
      let whole : part (spread f rs) INTERVALS 10 ≡ pad 10 l = cut f rs s 6 0 10 (lit≤ tt) ∙ take_all 10 (pad 10 l) (le_of_eq (length_pad 10 l s.intervals)) in
      record {
        long = length_lay f rs s;
        lettered = get f rs s 0 0 (lit< tt);
        version = get f rs s 1 0 (lit< tt);
        low = rw (get f rs s 3 1 (lit< tt)) (mod-lt f.opening.imsi (lit< tt));
        few = rw count s.intervals;
        spare = rw (count, whole) (unused_pad 10 l);
        short = λ k h. rw (count_at f rs s k h) (s.short k);
        clear = λ k h. rw (count_at f rs s k h, row_whole k h) (unused_pad 255 (get_or rs k []));
      }

-- ---- A good buffer is one with the shape and good values

row_tests : List ℕ → List Bool
row_tests b = row_good b 0 ∷ row_good b 1 ∷ row_good b 2 ∷ row_good b 3 ∷ row_good b 4 ∷ []

module _ (b : List ℕ) (h : good b ≡ true) where
  -- length and version, and the other lines
  head : (eqb (length b) SIZE && eqb (get_or b VERSION 0) CURRENT) ≡ true
  unfolding good
  head = and_left (eqb (length b) SIZE && eqb (get_or b VERSION 0) CURRENT) (every (lines b)) h

  line : (i : ℕ) → get_or (lines b) i true ≡ true
  unfolding good
  line i = pick (lines b) i (and_right (eqb (length b) SIZE && eqb (get_or b VERSION 0) CURRENT) (every (lines b)) h)

  row_test : (k : ℕ) → k < 5 → row_good b k ≡ true
  unfolding lines row_tests
  row_test zero l = pick (row_tests b) 0 (line 15)
  row_test (suc zero) l = pick (row_tests b) 1 (line 15)
  row_test (suc (suc zero)) l = pick (row_tests b) 2 (line 15)
  row_test (suc (suc (suc zero))) l = pick (row_tests b) 3 (line 15)
  row_test (suc (suc (suc (suc zero)))) l = pick (row_tests b) 4 (line 15)
  row_test (suc (suc (suc (suc (suc k))))) l = absurd (omega arith)

  rising : (k : ℕ) → k < 5 → list_good (facts_of b).opening.opened (facts_of b).last (row b k) ≡ true
  unfolding row_good
  rising k l = and_left (list_good (facts_of b).opening.opened (facts_of b).last (row b k)) _ (row_test k l)

  clear : (k : ℕ) → k < 5 → zeros (unused (get_or b (LENGTHS + k) 0) (part b (LISTS + 255 * k) 255)) ≡ true
  unfolding row_good
  clear k l = and_right (list_good (facts_of b).opening.opened (facts_of b).last (row b k)) _ (row_test k l)

  pub good_shape : Shape b
  unfolding lines count_good
  good_shape =
      let n = get_or b COUNT 0 in
      record {
        long = eqb-true (length b) SIZE (and_left (eqb (length b) SIZE) _ head);
        lettered = eqb-true _ _ (line 0);
        version = eqb-true _ _ (and_right (eqb (length b) SIZE) _ head);
        low = ltb-true (get_or b REMAINDER 0) (2 ^ 32) (and_left _ _ (line 2));
        few = leb-true n 10 (and_right (leb 1 n) (leb n 10) (line 4));
        spare = and_right (intervals_good (facts_of b).mode.intervals) _ (line 5);
        short = byte_low b LENGTHS 5 (line 14);
        clear = clear;
      }

  counted : count_good (length (facts_of b).mode.intervals) ≡ true
  unfolding lines facts_of
  counted = rw (interval_count b good_shape) (line 4)

  pub good_values : every (values (view b)) ≡ true
  unfolding lines values
  good_values =
      let v = view b in
      let lists =
      passed (map (list_good v.facts.opening.opened v.facts.last) (rows v.lists))
      (rising 0 (lit< tt), (rising 1 (lit< tt), (rising 2 (lit< tt), (rising 3 (lit< tt), (rising 4 (lit< tt), tt))))) in
      let imsi = and_right (ltb (get_or b REMAINDER 0) (2 ^ 32)) (imsi_good v.facts.opening.imsi) (line 2) in
      let intervals = and_left (intervals_good v.facts.mode.intervals) (zeros (unused (get_or b COUNT 0) (part b INTERVALS 10))) (line 5) in
      passed (values v)
      (line 1, (imsi, (line 3, (counted, (intervals, (line 6, (line 7, (line 8, (line 9, (line 10, (line 11, (line 12, (line 13, (lists, tt))))))))))))))

pub both_true : {x y : Bool} → x ≡ true → y ≡ true → (x && y) ≡ true
both_true p q = rw (p, q)

-- and the other way
module _ (b : List ℕ) (s : Shape b) (h : every (values (view b)) ≡ true) where
  value : (i : ℕ) → get_or (values (view b)) i true ≡ true
  value i = pick (values (view b)) i h

  row_tested : (k : ℕ) → k < 5 → list_good (facts_of b).opening.opened (facts_of b).last (row b k) ≡ true → row_good b k ≡ true
  unfolding row_good
  row_tested k l e = both_true e (s.clear k l)

  counts_low : bytes (part b LENGTHS 5) ≡ true
  unfolding at_most
  counts_low =
      rw (
        spell b 50 5 (omega (arith, s.long)),
        le-leb _ _ (s.short 0 (lit< tt)),
        le-leb _ _ (s.short 1 (lit< tt)),
        le-leb _ _ (s.short 2 (lit< tt)),
        le-leb _ _ (s.short 3 (lit< tt)),
        le-leb _ _ (s.short 4 (lit< tt)),
      )

  counted_by : count_good (get_or b COUNT 0) ≡ true
  unfolding values facts_of
  counted_by = rw (interval_count b s) at (value 3)

  pub shape_good : good b ≡ true
  unfolding good lines values
  shape_good =
      let f = facts_of b in
      let tests = map (list_good f.opening.opened f.last) (rows (view b).lists) in
      let row : (k : ℕ) → get_or tests k true ≡ true = λ k. pick tests k (value 13) in
      let lists =
      passed (row_good b 0 ∷ row_good b 1 ∷ row_good b 2 ∷ row_good b 3 ∷ row_good b 4 ∷ [])
      (row_tested 0 (lit< tt) (row 0), (row_tested 1 (lit< tt) (row 1), (row_tested 2 (lit< tt) (row 2), (row_tested 3 (lit< tt) (row 3), (row_tested 4 (lit< tt) (row 4), tt))))) in
      let imsi : (ltb (get_or b REMAINDER 0) (2 ^ 32) && imsi_good f.opening.imsi) ≡ true = both_true (lt-ltb _ _ s.low) (value 1) in
      let intervals : (intervals_good f.mode.intervals && zeros (unused (get_or b COUNT 0) (part b INTERVALS 10))) ≡ true = both_true (value 4) s.spare in
      both_true (both_true (eq-eqb _ _ s.long) (eq-eqb _ _ s.version))
      (passed (lines b)
      (eq-eqb _ _ s.lettered, (value 0, (imsi, (value 2, (counted_by, (intervals, (value 5, (value 6, (value 7, (value 8, (value 9, (value 10, (value 11, (value 12, (counts_low, (lists, tt)))))))))))))))))

-- ---- A valid state has lists as long as their places

pub shaped_fits : (v : State) → every (fits v) ≡ true → every (values v) ≡ true → Shaped v.facts (rows v.lists)
unfolding fits values count_good
shaped_fits v h g =
    let n = length v.facts.mode.intervals in
    record {
      intervals = leb-true n 10 (and_right (leb 1 n) (leb n 10) (pick (values v) 3 g));
      failures = eqb-true _ _ (pick (fits v) 0 h);
      ends = eqb-true _ _ (pick (fits v) 1 h);
      standing = eqb-true _ _ (pick (fits v) 2 h);
      counters = eqb-true _ _ (pick (fits v) 3 h);
      five = refl;
      short = λ k. leb-true (length (get_or (rows v.lists) k [])) 255 (sym (get_or-map (λ l. leb (length l) 255) (rows v.lists) k []) ∙ pick (map (λ l. leb (length l) 255) (rows v.lists)) k (pick (fits v) 4 h));
    }

pub fits_shaped : (v : State) → Shaped v.facts (rows v.lists) → every (fits v) ≡ true
unfolding fits
fits_shaped v s =
    let short : (k : ℕ) → leb (length (get_or (rows v.lists) k [])) 255 ≡ true = λ k. le-leb _ _ (s.short k) in
    let lists = passed (map (λ l. leb (length l) 255) (rows v.lists)) (short 0, (short 1, (short 2, (short 3, (short 4, tt))))) in
    passed (fits v) (eq-eqb _ _ s.failures, (eq-eqb _ _ s.ends, (eq-eqb _ _ s.standing, (eq-eqb _ _ s.counters, (lists, tt)))))

pub shaped_valid : (v : State) → valid v ≡ true → Shaped v.facts (rows v.lists)
unfolding valid
shaped_valid v h = shaped_fits v (and_left (every (fits v)) (every (values v)) h) (and_right (every (fits v)) (every (values v)) h)

-- ---- The laws

-- a good buffer lays its own state out
pub lay_view_good : (b : List ℕ) → good b ≡ true → lay (view b) ≡ b
lay_view_good b h = lay_view b (good_shape b h)

-- a valid state reads back
pub view_lay_valid : (v : State) → valid v ≡ true → view (lay v) ≡ v
view_lay_valid v h = view_lay v (shaped_valid v h)

-- and is laid out as a good buffer
pub good_lay : (v : State) → valid v ≡ true → good (lay v) ≡ true
unfolding valid
good_lay v h =
    let s = shaped_valid v h in
    shape_good (lay v) (shape_lay v.facts (rows v.lists) s)
    (subst (λ (w : State). every (values w) ≡ true) (sym (view_lay v s)) (and_right (every (fits v)) (every (values v)) h))

-- a good buffer's state is valid
pub valid_view : (b : List ℕ) → good b ≡ true → valid (view b) ≡ true
unfolding valid
valid_view b h = both_true (fits_shaped (view b) (shaped b (good_shape b h))) (good_values b h)
