-- The reading of a decimal, step by step, at a place of a line. Assumes nothing.
use Prim.Native.Nat.{ℕ, ◌+◌, ◌*◌, ◌≤◌, ◌<◌}
use mathlib.Core.Path.{◌≡◌, refl, ap, subst, ◌∙◌}
use mathlib.Core.List.{List}
use native.Mathlib.Numerals.{add-one}
use native.Mathlib.Omega.{arith}
use lib.ListN.{length, get_or, drop, drop_of_length-le, length-drop}
use lib.Seq.{drop-cons}
use borrow.Author.Tests.{lt-ltb, le-ltb, le-leb, lt-leb, eq-eqb, ne_eqb}
use Rattle.text.specs.Number.{digit_of, got, none, digits, num, part_of, place_of}
use Rattle.text.specs.declared.Num.{Num}
use Rattle.std.specs.Prelude.{Option, Some, None}

module _ (most : ℕ) (l : List ℕ) (i : ℕ) where
  pub num_end : length l ≤ i → num most (drop i l) ≡ none
  unfolding num
  num_end h = rw (drop_of_length-le l h)

  pub digits_end : (v : ℕ) → length l ≤ i → digits most (drop i l) v ≡ got v (drop i l)
  unfolding digits
  digits_end v h = rw (drop_of_length-le l h)

module _ (most : ℕ) (l : List ℕ) (i d : ℕ) (h : i < length l) (e : d ≡ digit_of (get_or l i 0)) where
  pub num_other : 9 < d → num most (drop i l) ≡ none
  unfolding num
  num_other p = rw (drop-cons l i 0 h, ← e, le-ltb d 10 p)

  pub num_zero : d ≡ 0 → num most (drop i l) ≡ got 0 (drop (i + 1) l)
  unfolding num
  num_zero p = rw (drop-cons l i 0 h, ← e, add-one, lt-ltb d 10 (omega arith), eq-eqb d 0 p)

  module _ (p : d ≤ 9) (z : d ≡ 0 → ⊥) where
    pub num_over : most < d → num most (drop i l) ≡ none
    unfolding num
    num_over q = rw (drop-cons l i 0 h, ← e, lt-ltb d 10 (omega arith), ne_eqb d 0 z, lt-leb d most q)

    pub num_go : d ≤ most → num most (drop i l) ≡ digits most (drop (i + 1) l) d
    unfolding num
    num_go q = rw (drop-cons l i 0 h, ← e, add-one, lt-ltb d 10 (omega arith), ne_eqb d 0 z, le-leb d most q)

  module _ (v : ℕ) where
    pub digits_other : 9 < d → digits most (drop i l) v ≡ got v (drop i l)
    unfolding digits
    digits_other p = rw (drop-cons l i 0 h, ← e, le-ltb d 10 p)

    pub digits_over : d ≤ 9 → most < v * 10 + d → digits most (drop i l) v ≡ none
    unfolding digits
    digits_over p q = rw (drop-cons l i 0 h, ← e, lt-ltb d 10 (omega arith), lt-leb (v * 10 + d) most q)

    pub digits_go : d ≤ 9 → v * 10 + d ≤ most → digits most (drop i l) v ≡ digits most (drop (i + 1) l) (v * 10 + d)
    unfolding digits
    digits_go p q = rw (drop-cons l i 0 h, ← e, add-one, lt-ltb d 10 (omega arith), le-leb (v * 10 + d) most q)

-- a 0 that was looked up
pub num_zero_at : (most : ℕ) (l : List ℕ) (i b d : ℕ) → i < length l → ((e : ℕ) → b ≡ get_or l i e) → d ≡ digit_of b → d ≡ 0 → num most (drop i l) ≡ got 0 (drop (i + 1) l)
num_zero_at most l i b d h k e z = num_zero most l i d h (e ∙ ap digit_of (k 0)) z

-- the contract of `decimal` has one answer: the bytes after a number fix the place
pub one_answer : (l : List ℕ) (r s : Option Num) → part_of l r ≡ part_of l s → place_of r ≤ length l → place_of s ≤ length l → r ≡ s
one_answer l (Some n) (Some m) e a b =
    let x : drop n.next l ≡ drop m.next l = cc e in
    let y : n.next ≡ m.next = omega (arith, length-drop n.next l, length-drop m.next l, ap length x) in
    let z : n.value ≡ m.value = cc e in
    ap Some (subst (λ (v : ℕ). n ≡ record { value = v; next = m.next }) z (subst (λ (p : ℕ). n ≡ record { value = n.value; next = p }) y refl))
one_answer l (Some n) None e a b = absurd (cc e)
one_answer l None (Some m) e a b = absurd (cc e)
one_answer l None None e a b = refl
