-- A buffer is judged by its counts first and the other lines after them, in groups: that is the
-- table's list of lines. Assumes nothing.
use mathlib.Core.Path.{◌≡◌, refl, sym}
use mathlib.Core.Bool.{Bool, true, false, ◌&&◌, and-false}
use mathlib.Core.List.{List}
use Prim.Native.Nat.{ℕ, ◌≤◌}
use borrow.Author.Tests.{eq-eqb, ne_eqb, leb-true}
use lib.Dec.{leb, eqb}
use lib.ListN.{length, get_or, take, drop}
use Rattle.std.specs.Prelude.{◌≢◌, Option, Some, None, MatchOption}
use Rattle.std.specs.Array.{IsWholeChunk}
use Rattle.buffer.specs.Places.{SIZE, CURRENT, VERSION, COUNT, LENGTHS}
use Rattle.buffer.specs.Segments.{part}
use Rattle.buffer.specs.Good.{bytes, every, count_good, lines, good_as, good, some_lines}
use Rattle.rules.proofs.Checks.{and_left, and_right}
use Rattle.buffer.proofs.Tests.{pick, passed, fails}
use Rattle.buffer.proofs.Goodness.{both_true}

-- two tests of which each implies the other
same_truth : (x y : Bool) → (x ≡ true → y ≡ true) → (y ≡ true → x ≡ true) → x ≡ y
same_truth true y f g = sym (f refl)
same_truth false true f g = g refl
same_truth false false f g = refl

module _ (n v : ℕ) (b : List ℕ) where
  pub wrong_length : (length b ≡ n → ⊥) → false ≡ good_as n v b
  wrong_length h = rw (ne_eqb (length b) n h)

  pub wrong_version : (get_or b VERSION 0 ≡ v → ⊥) → false ≡ good_as n v b
  wrong_version h = rw (ne_eqb (get_or b VERSION 0) v h, and-false (eqb (length b) n))

  pub right_head : length b ≡ n → get_or b VERSION 0 ≡ v → every (lines b) ≡ good_as n v b
  right_head l w = rw (eq-eqb (length b) n l, eq-eqb (get_or b VERSION 0) v w)

module _ (b : List ℕ) where
  pub wrong_counts : (count_good (get_or b COUNT 0) && bytes (part b LENGTHS 5)) ≡ false → false ≡ every (lines b)
  unfolding lines
  wrong_counts h = go (count_good (get_or b COUNT 0)) refl h
    where
      go : (x : Bool) → count_good (get_or b COUNT 0) ≡ x → (x && bytes (part b LENGTHS 5)) ≡ false → false ≡ every (lines b)
      go true e h = fails (lines b) 14 h
      go false e h = fails (lines b) 4 e

  pub few_intervals : (count_good (get_or b COUNT 0) && bytes (part b LENGTHS 5)) ≡ true → get_or b COUNT 0 ≤ 10
  unfolding count_good
  few_intervals h = let n = get_or b COUNT 0 in leb-true n 10 (and_right (leb 1 n) (leb n 10) (and_left (leb 1 n && leb n 10) (bytes (part b LENGTHS 5)) h))

  pub short_lists : (count_good (get_or b COUNT 0) && bytes (part b LENGTHS 5)) ≡ true → bytes (part b LENGTHS 5) ≡ true
  short_lists h = and_right (count_good (get_or b COUNT 0)) (bytes (part b LENGTHS 5)) h

  pub all_lines : (count_good (get_or b COUNT 0) && bytes (part b LENGTHS 5)) ≡ true
      → (some_lines b 0 4 && some_lines b 5 1 && some_lines b 6 4 && some_lines b 10 4 && some_lines b 15 1) ≡ every (lines b)
  unfolding lines
  all_lines counted = same_truth _ _ there back
    where
      there : (some_lines b 0 4 && some_lines b 5 1 && some_lines b 6 4 && some_lines b 10 4 && some_lines b 15 1) ≡ true → every (lines b) ≡ true
      there h =
          let four = and_left (some_lines b 0 4 && some_lines b 5 1 && some_lines b 6 4 && some_lines b 10 4) (some_lines b 15 1) h in
          let three = and_left (some_lines b 0 4 && some_lines b 5 1 && some_lines b 6 4) (some_lines b 10 4) four in
          let two = and_left (some_lines b 0 4 && some_lines b 5 1) (some_lines b 6 4) three in
          let A : (k : ℕ) → get_or (take 4 (drop 0 (lines b))) k true ≡ true = λ k. pick (take 4 (drop 0 (lines b))) k (and_left (some_lines b 0 4) (some_lines b 5 1) two) in
          let B : (k : ℕ) → get_or (take 1 (drop 5 (lines b))) k true ≡ true = λ k. pick (take 1 (drop 5 (lines b))) k (and_right (some_lines b 0 4) (some_lines b 5 1) two) in
          let C : (k : ℕ) → get_or (take 4 (drop 6 (lines b))) k true ≡ true = λ k. pick (take 4 (drop 6 (lines b))) k (and_right (some_lines b 0 4 && some_lines b 5 1) (some_lines b 6 4) three) in
          let D : (k : ℕ) → get_or (take 4 (drop 10 (lines b))) k true ≡ true = λ k. pick (take 4 (drop 10 (lines b))) k (and_right (some_lines b 0 4 && some_lines b 5 1 && some_lines b 6 4) (some_lines b 10 4) four) in
          let E : (k : ℕ) → get_or (take 1 (drop 15 (lines b))) k true ≡ true = λ k. pick (take 1 (drop 15 (lines b))) k (and_right (some_lines b 0 4 && some_lines b 5 1 && some_lines b 6 4 && some_lines b 10 4) (some_lines b 15 1) h) in
          passed (lines b)
          (A 0, (A 1, (A 2, (A 3, (and_left (count_good (get_or b COUNT 0)) _ counted, (B 0, (C 0, (C 1, (C 2, (C 3, (D 0, (D 1, (D 2, (D 3, (short_lists counted, (E 0, tt))))))))))))))))

      back : every (lines b) ≡ true → (some_lines b 0 4 && some_lines b 5 1 && some_lines b 6 4 && some_lines b 10 4 && some_lines b 15 1) ≡ true
      back h =
          let L : (k : ℕ) → get_or (lines b) k true ≡ true = λ k. pick (lines b) k h in
          both_true
          (both_true
          (both_true
          (both_true (passed (take 4 (drop 0 (lines b))) (L 0, (L 1, (L 2, (L 3, tt))))) (passed (take 1 (drop 5 (lines b))) (L 5, tt)))
          (passed (take 4 (drop 6 (lines b))) (L 6, (L 7, (L 8, (L 9, tt))))))
          (passed (take 4 (drop 10 (lines b))) (L 10, (L 11, (L 12, (L 13, tt))))))
          (passed (take 1 (drop 15 (lines b))) (L 15, tt))

-- a buffer of another length is not good
pub not_long : (b : List ℕ) → (length b ≡ SIZE → ⊥) → good b ≡ false
unfolding good
not_long b h = sym (wrong_length SIZE CURRENT b h)

-- of a good buffer the whole is lent on, whichever the reference
pub lent_on : {T : Type 0} (now : T → List ℕ) (b : List ℕ) (r : Option T) → good b ≡ true
    → MatchOption r (length b ≢ SIZE) (λ whole. IsWholeChunk b (now whole) SIZE)
    → MatchOption r (good b ≡ false) (λ whole. (good b ≡ true) × (now whole ≡ b))
lent_on now b None g c = not_long b c
lent_on now b (Some whole) g c = (g, c.same)
