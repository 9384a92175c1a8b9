-- The line of a record, from what each test of its bytes found. Assumes nothing.
use mathlib.Core.Path.{◌≡◌, sym, ap, ◌∙◌}
use mathlib.Core.Bool.{true, false, cond, ◌&&◌, false≢true}
use mathlib.Core.List.{List, [], ◌∷◌, ◌++◌}
use mathlib.Core.Logic.{◌≢◌}
use Rattle.std.specs.Prelude.{None, Some}
use Prim.Native.Nat.{ℕ, ◌+◌, ◌-◌, ◌*◌, ◌≤◌, ◌<◌}
use native.Mathlib.Omega.{arith}
use lib.ListN.{length, get_or, take, drop, length-take, length-drop}
use borrow.Author.Tests.{eq-eqb, ne_eqb, le-leb, lt-leb}
use Rattle.rules.specs.declared.Answer.{Answer}
use Rattle.image.specs.Image.{image_of}
use Rattle.at.specs.Lines.{read_line, starts}
use Rattle.calls.specs.Letters.{letter_a, how_many, event_of}
use Rattle.records.specs.Records.{times, types, arguments_of, packed, encoded, numbers_in, timed_by, line_by, parsed, same, longest_line}
use Rattle.records.proofs.Records.{Spells, spells, spelled}
use Rattle.listing.specs.Listing.{fields_of, line_of, end_of, listed, answer_from, taken, line_in}

-- ---- A timed call

module _ (r : List ℕ) (other : get_or r 0 0 ≢ letter_a) where
  pub no_letter : how_many (get_or r 0 0) ≡ 0 → None ≡ line_in r
  unfolding line_in parsed timed_by
  no_letter h = rw (ne_eqb (get_or r 0 0) letter_a other, eq-eqb (how_many (get_or r 0 0)) 0 h)

  module _ (begins : how_many (get_or r 0 0) ≢ 0) (v : List ℕ) (read : v ≡ numbers_in (how_many (get_or r 0 0)) r) (many : length v ≡ how_many (get_or r 0 0)) (a : Answer) (answers : a ≡ answer_from (1 + 4 * length v) r) where
    sp : Spells (get_or r 0 0) v
    sp = spells (get_or r 0 0) v many begins

    timed_parsed : parsed r ≡ Some (times (get_or v 0 0) (event_of (get_or r 0 0) v))
    unfolding parsed timed_by
    timed_parsed = rw (ne_eqb (get_or r 0 0) letter_a other, ne_eqb (how_many (get_or r 0 0)) 0 begins, read)

    timed_listed : listed (times (get_or v 0 0) (event_of (get_or r 0 0) v)) a ≡ get_or r 0 0 ∷ (fields_of v ++ end_of a)
    unfolding listed line_of
    timed_listed = rw (sp.letter, sp.numbers)

    timed_found : line_in r ≡ cond (same (packed (get_or r 0 0) (image_of v) a) r && true) (Some (get_or r 0 0 ∷ (fields_of v ++ end_of a))) None
    unfolding line_in
    timed_found =
        let at : answer_from (1 + 4 * length (get_or v 0 0 ∷ arguments_of (event_of (get_or r 0 0) v))) r ≡ a
        = ap (λ (l : List ℕ). answer_from (1 + 4 * length l) r) sp.numbers ∙ sym answers in
        rw (timed_parsed, at, spelled (get_or r 0 0) v many begins a, timed_listed)

    pub timed_some : same (packed (get_or r 0 0) (image_of v) a) r ≡ true → {y : List ℕ} → y ≡ get_or r 0 0 ∷ (fields_of v ++ end_of a) → Some y ≡ line_in r
    timed_some h {y} e = ap Some e ∙ sym (timed_found ∙ rw h)

    pub timed_none : same (packed (get_or r 0 0) (image_of v) a) r ≡ false → None ≡ line_in r
    timed_none h = sym (timed_found ∙ rw h)

-- ---- An AT line

-- a line that is taken has bytes
pub taken_long : (l : List ℕ) → taken (read_line l) ≡ true → 1 ≤ length l
unfolding read_line starts
taken_long [] h = absurd (false≢true h)
taken_long (y ∷ l) h = omega arith

-- its part of the record, as the code cuts it
module _ (r : List ℕ) (n : ℕ) where
  pub part_is : take (5 + n - 5) (drop 5 r) ≡ take n (drop 5 r)
  part_is = let e : 5 + n - 5 ≡ n = omega arith in rw e

  pub part_long : length r ≡ 128 → n ≤ longest_line → length (take (5 + n - 5) (drop 5 r)) ≡ n
  part_long h k = simp (length-take, length-drop) (omega arith)

module _ (r : List ℕ) (first : get_or r 0 0 ≡ letter_a) (n : ℕ) (size : n ≡ get_or (numbers_in 1 r) 0 0) where
  pub too_long : longest_line < n → None ≡ line_in r
  unfolding line_in parsed line_by
  too_long h = rw (eq-eqb (get_or r 0 0) letter_a first, ← size, lt-leb n longest_line h)

  module _ (few : n ≤ longest_line) (l : List ℕ) (part : l ≡ take n (drop 5 r)) (long : length l ≡ n) (a : Answer) (answers : a ≡ answer_from (5 + n) r) where
    typed_parsed : parsed r ≡ Some (types l)
    unfolding parsed line_by
    typed_parsed = rw (eq-eqb (get_or r 0 0) letter_a first, ← size, le-leb n longest_line few, ← part)

    typed_found : line_in r ≡ cond (same (encoded (types l) a) r && taken (read_line l)) (Some (line_of (types l) ++ end_of a)) None
    unfolding line_in listed
    typed_found =
        let at : answer_from (5 + length l) r ≡ a = ap (λ (k : ℕ). answer_from (5 + k) r) long ∙ sym answers in
        rw (typed_parsed, at)

    pub typed_some : same (encoded (types l) a) r ≡ true → taken (read_line l) ≡ true → {y : List ℕ} → y ≡ line_of (types l) ++ end_of a → Some y ≡ line_in r
    typed_some h t {y} e = ap Some e ∙ sym (typed_found ∙ rw (h, t))

    pub typed_bad : same (encoded (types l) a) r ≡ true → taken (read_line l) ≡ false → None ≡ line_in r
    typed_bad h t = sym (typed_found ∙ rw (h, t))

    pub typed_none : same (encoded (types l) a) r ≡ false → None ≡ line_in r
    typed_none h = sym (typed_found ∙ rw h)
