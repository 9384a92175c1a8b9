-- The laws of the layout: each place and part of what is laid out, and that it reads back. Assumes nothing.
use mathlib.Core.Path.{◌≡◌, refl, sym, ap, ◌∙◌}
use mathlib.Core.List.{List, [], ◌∷◌, map, append-nil}
use Prim.Native.Nat.{ℕ, zero, suc, ◌+◌, ◌*◌, ◌/◌, ◌^◌, ◌≤◌, ◌<◌, zero-le}
use native.Mathlib.Nat.{zero-add, add-zero, not-suc-le-zero, le_of_suc-le-suc, div-add-mod', mul-suc, mul-zero, add_comm}
use native.Mathlib.Omega.{arith}
use lib.Dec.{lit<}
use lib.ListN
use lib.ListN.{length, get_or, take, set, replicate, get_or-replicate, length-append, length-set, length-replicate, length-map, drop_of_length-le}
use lib.Seq.{take-append_seam, take_all}
use Rattle.rules.specs.Tables.{Kind, attach, activation, pdp, sms, reset}
use Rattle.rules.specs.State.{State, Facts}
use Rattle.buffer.specs.Segments.{concat, off, part, pad, paste}
use Rattle.buffer.specs.Places.{SIZE, LENGTHS, LISTS}
use Rattle.buffer.specs.Layout.{widths, segments, spread, lay, rows, place, row, facts_of, view}
use Rattle.buffer.proofs.Segments.{get_or_seg, set_seg, part_seg, paste_seg, length_seg, width_set, map-set}

-- what facts and lists must be for their numbers to fill the buffer exactly
pub record Shaped (f : Facts) (rs : List (List ℕ)) : Type 0 where
  pub intervals : length f.mode.intervals ≤ 10
  pub failures : length f.services.failures ≡ 4
  pub ends : length f.services.ends ≡ 4
  pub standing : length f.services.standing ≡ 4
  pub counters : length f.counters ≡ 6
  pub five : length rs ≡ 5
  pub short : (k : ℕ) → length (get_or rs k []) ≤ 255

pub length_pad : (n : ℕ) (xs : List ℕ) → length xs ≤ n → length (pad n xs) ≡ n
unfolding pad
length_pad n xs h = simp (length-append, length-replicate) (omega arith)

pub take_pad : (n : ℕ) (xs : List ℕ) → take (length xs) (pad n xs) ≡ xs
unfolding pad
take_pad n xs = take-append_seam xs _

pub paste_whole : (x y : List ℕ) → length x ≤ length y → paste x 0 y ≡ y
unfolding paste
paste_whole x y h = rw (zero-add, drop_of_length-le x {i = length y} h) (append-nil y)

-- rows of one width
rows_widths : (n : ℕ) (ls : List (List ℕ)) → ((k : ℕ) → length (get_or ls k []) ≤ n) → map length (map (pad n) ls) ≡ replicate (length ls) n
rows_widths n [] h = refl
rows_widths n (l ∷ ls) h = λ i. length_pad n l (h 0) i ∷ rows_widths n ls (λ k. h (suc k)) i

off_rows : (m n k : ℕ) → k ≤ m → off (replicate m n) k ≡ n * k
off_rows m n zero h = sym (mul-zero n)
off_rows zero n (suc k) h = absurd (not-suc-le-zero h)
off_rows (suc m) n (suc k) h = ap (λ (x : ℕ). n + x) (off_rows m n k (omega arith)) ∙ (add_comm n (n * k) ∙ sym (mul-suc n k))

get_d_map {ℓ} : {A B : Type ℓ} (f : A → B) (l : List A) (k : ℕ) (d : A) (e : B) → k < length l → get_or (map f l) k e ≡ f (get_or l k d)
get_d_map f [] k d e h = absurd (not-suc-le-zero h)
get_d_map f (x ∷ xs) zero d e h = refl
get_d_map f (x ∷ xs) (suc k) d e h = get_d_map f xs k d e (le_of_suc-le-suc h)

-- a row replaced
short_set : (ls : List (List ℕ)) (k j : ℕ) (l : List ℕ) → ((k : ℕ) → length (get_or ls k []) ≤ 255) → length l ≤ 255 → length (get_or (set ls k l) j []) ≤ 255
short_set [] k j l h g = zero-le
short_set (x ∷ xs) zero zero l h g = g
short_set (x ∷ xs) zero (suc j) l h g = h (suc j)
short_set (x ∷ xs) (suc k) zero l h g = h 0
short_set (x ∷ xs) (suc k) (suc j) l h g = short_set xs k j l (λ k. h (suc k)) g

module _ (f : Facts) (rs : List (List ℕ)) (s : Shaped f rs) where
  rows_even : map length (map (pad 255) rs) ≡ replicate (length rs) 255
  rows_even = rows_widths 255 rs s.short

  rows_length : length (concat (map (pad 255) rs)) ≡ 1275
  rows_length = length_seg (map (pad 255) rs) _ rows_even ∙ ap (λ (m : ℕ). off (replicate m 255) (length {A = ℕ} (replicate m 255))) s.five

  pub sizes : map length (segments f rs) ≡ widths
  unfolding segments
  sizes =
      λ i.
      1
      ∷ 1
      ∷ 2
      ∷ 2
      ∷ 3
      ∷ 1
      ∷ length_pad 10 f.mode.intervals s.intervals i
      ∷ 6
      ∷ 2
      ∷ 3
      ∷ s.failures i
      ∷ s.ends i
      ∷ s.standing i
      ∷ 1
      ∷ s.counters i
      ∷ (length-map rs length ∙ s.five) i
      ∷ rows_length i
      ∷ 1
      ∷ []

  pub length_lay : length (spread f rs) ≡ SIZE
  unfolding spread
  length_lay = length_seg (segments f rs) widths sizes

  -- place i of segment k
  pub get : (k i : ℕ) → i < get_or widths k 0 → get_or (spread f rs) (off widths k + i) 0 ≡ get_or (get_or (segments f rs) k []) i 0
  unfolding spread
  get = get_or_seg (segments f rs) widths sizes

  pub cut : (k i n : ℕ) → i + n ≤ get_or widths k 0 → part (spread f rs) (off widths k + i) n ≡ part (get_or (segments f rs) k []) i n
  unfolding spread
  cut = part_seg (segments f rs) widths sizes

  pub put : (k i a : ℕ) → i < get_or widths k 0 → set (spread f rs) (off widths k + i) a ≡ concat (set (segments f rs) k (set (get_or (segments f rs) k []) i a))
  unfolding spread
  put = set_seg (segments f rs) widths sizes

  pub fill : (k i : ℕ) (y : List ℕ) → i + length y ≤ get_or widths k 0 → k < 18
      → paste (spread f rs) (off widths k + i) y ≡ concat (set (segments f rs) k (paste (get_or (segments f rs) k []) i y))
  unfolding spread
  fill = paste_seg (segments f rs) widths sizes

  -- a whole segment
  all_of : (k : ℕ) (l : List ℕ) → get_or (segments f rs) k [] ≡ l → length l ≡ get_or widths k 0 → part (spread f rs) (off widths k + 0) (get_or widths k 0) ≡ l
  all_of k l e h = cut k 0 (get_or widths k 0) (omega arith) ∙ (rw e (take_all (get_or widths k 0) l (omega arith)))

  rows_off : (k : ℕ) → k < 5 → off (replicate (length rs) 255) k + 0 ≡ 255 * k
  rows_off k h = add-zero _ ∙ off_rows (length rs) 255 k (omega (arith, s.five))

  rows_width : (k : ℕ) → k < 5 → ◌≡◌ {A = ℕ} (get_or (replicate (length rs) 255) k 0) 255
  rows_width k h = get_or-replicate {A = ℕ} (length rs) k 255 0 (omega (arith, s.five))

  -- list k of the five: the first n of its places, its count, and the list itself
  pub places_at : (k n : ℕ) → k < 5 → n ≤ 255 → part (spread f rs) (LISTS + 255 * k) n ≡ take n (pad 255 (get_or rs k []))
  unfolding segments
  places_at k n h short =
      cut 16 (255 * k) n (omega arith)
      ∙ ap (λ (m : ℕ). part (concat (map (pad 255) rs)) m n) (sym (rows_off k h))
      ∙ part_seg (map (pad 255) rs) (replicate (length rs) 255) rows_even k 0 n (rw (rows_width k h) (omega arith))
      ∙ ap (λ (l : List ℕ). take n l) (get_d_map (pad 255) rs k [] [] (omega (arith, s.five)))

  pub count_at : (k : ℕ) → k < 5 → get_or (spread f rs) (LENGTHS + k) 0 ≡ length (get_or rs k [])
  unfolding segments
  count_at k h = get 15 k h ∙ ListN.get_or-map length rs k []

  pub row_at : (k : ℕ) → k < 5 → row (spread f rs) k ≡ get_or rs k []
  row_at k h =
      ap (λ (m : ℕ). part (spread f rs) (LISTS + 255 * k) m) (count_at k h)
      ∙ places_at k (length (get_or rs k [])) h (s.short k)
      ∙ take_pad 255 (get_or rs k [])

  -- list k replaced, and its count
  rows_paste : (k : ℕ) (l : List ℕ) → k < 5 → length l ≤ 255
      → paste (concat (map (pad 255) rs)) (255 * k) (pad 255 l) ≡ concat (map (pad 255) (set rs k l))
  rows_paste k l h short =
      ap (λ (m : ℕ). paste (concat (map (pad 255) rs)) m (pad 255 l)) (sym (rows_off k h))
      ∙ paste_seg (map (pad 255) rs) (replicate (length rs) 255) rows_even k 0 (pad 255 l) (rw (rows_width k h) (omega (arith, length_pad 255 l short))) (simp length-replicate (omega (arith, s.five)))
      ∙ ap concat
      (ap {B = List (List ℕ)} (λ r. set (map (pad 255) rs) k r) (paste_whole (get_or (map (pad 255) rs) k []) (pad 255 l) (rw (get_d_map (pad 255) rs k [] [] (omega (arith, s.five))) (omega (arith, length_pad 255 l short, length_pad 255 (get_or rs k []) (s.short k)))))
      ∙ sym (map-set (pad 255) rs k l))

  pub shaped_row : (k : ℕ) (l : List ℕ) → length l ≤ 255 → Shaped f (set rs k l)
  shaped_row k l short = record {
    intervals = s.intervals;
    failures = s.failures;
    ends = s.ends;
    standing = s.standing;
    counters = s.counters;
    five = length-set rs k l ∙ s.five;
    short = λ j. short_set rs k j l s.short short;
  }

  pub set_row : (k : ℕ) (l : List ℕ) → k < 5 → length l ≤ 255
      → set (paste (spread f rs) (LISTS + 255 * k) (pad 255 l)) (LENGTHS + k) (length l) ≡ spread f (set rs k l)
  unfolding spread segments
  set_row k l h short =
      let long : length (paste (concat (map (pad 255) rs)) (255 * k) (pad 255 l)) ≡ 1275 = ap length (rows_paste k l h short) ∙ rows_length' in
      ap (λ (b : List ℕ). set b (LENGTHS + k) (length l)) (fill 16 (255 * k) (pad 255 l) (omega (arith, length_pad 255 l short)) (lit< tt))
      ∙ set_seg (set (segments f rs) 16 (paste (concat (map (pad 255) rs)) (255 * k) (pad 255 l))) widths (width_set (segments f rs) widths sizes 16 (paste (concat (map (pad 255) rs)) (255 * k) (pad 255 l)) long) 15 k (length l) h
      ∙ (λ i. concat (set (set (segments f rs) 15 (sym (map-set length rs k l) i)) 16 (rows_paste k l h short i)))
    where
      rows_length' : length (concat (map (pad 255) (set rs k l))) ≡ 1275
      rows_length' =
          let t = shaped_row k l short in
          length_seg (map (pad 255) (set rs k l)) _ (rows_widths 255 (set rs k l) t.short) ∙ ap (λ (m : ℕ). off (replicate m 255) (length {A = ℕ} (replicate m 255))) t.five

  pub facts_lay : facts_of (spread f rs) ≡ f
  unfolding facts_of segments
  facts_lay =
      let high = get 3 0 (lit< tt) in
      let low = get 3 1 (lit< tt) in
      let n = f.opening.imsi in
      λ i.
      record {
        opening = record {
          opened = get 2 0 (lit< tt) i;
          imsi = (ap (λ (x : ℕ). x * 2 ^ 32 + get_or (spread f rs) 5 0) high ∙ ap (λ (x : ℕ). n / 2 ^ 32 * 2 ^ 32 + x) low ∙ div-add-mod' n (2 ^ 32)) i;
          rpm = get 4 2 (lit< tt) i;
          N1 = get 7 0 (lit< tt) i;
          T1 = get 7 1 (lit< tt) i;
          F1 = get 7 2 (lit< tt) i;
          F2 = get 7 3 (lit< tt) i;
          F3 = get 7 4 (lit< tt) i;
          F4 = get 7 5 (lit< tt) i;
          A1 = get 8 0 (lit< tt) i;
          S1 = get 8 1 (lit< tt) i;
          LR1 = get 9 0 (lit< tt) i;
          LR2 = get 9 1 (lit< tt) i;
          LR3 = get 9 2 (lit< tt) i;
        };
        mode = record {
          nfm = get 4 0 (lit< tt) i;
          start = get 4 1 (lit< tt) i;
          intervals = (ap (λ (x : ℕ). part (spread f rs) 10 x) (get 5 0 (lit< tt)) ∙ cut 6 0 (length f.mode.intervals) (omega (arith, s.intervals)) ∙ take_pad 10 f.mode.intervals) i;
        };
        last = get 2 1 (lit< tt) i;
        counters = all_of 14 f.counters refl s.counters i;
        services = record {
          failures = all_of 10 f.services.failures refl s.failures i;
          ends = all_of 11 f.services.ends refl s.ends i;
          standing = all_of 12 f.services.standing refl s.standing i;
          mood = get 13 0 (lit< tt) i;
        };
        due = get 17 0 (lit< tt) i;
      }

-- five lists, by their places
pub place_low : (k : Kind) → place k < 5
place_low attach = lit< tt
place_low activation = lit< tt
place_low pdp = lit< tt
place_low sms = lit< tt
place_low reset = lit< tt

pub at_place : (l : Kind → List ℕ) (k : Kind) → get_or (rows l) (place k) [] ≡ l k
at_place l attach = refl
at_place l activation = refl
at_place l pdp = refl
at_place l sms = refl
at_place l reset = refl

pub view_lay : (v : State) → Shaped v.facts (rows v.lists) → view (lay v) ≡ v
view_lay v s = λ i. record { facts = facts_lay v.facts (rows v.lists) s i; lists = λ k. (row_at v.facts (rows v.lists) s (place k) (place_low k) ∙ at_place v.lists k) i }
