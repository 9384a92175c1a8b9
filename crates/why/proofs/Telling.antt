-- The lines of the rules that stand, written one after the other. Assumes nothing.
use mathlib.Core.Path.{◌≡◌, sym, ap, ◌∙◌}
use mathlib.Core.List.{List, ◌++◌, append_assoc}
use Prim.Native.Nat.{ℕ, ◌+◌, ◌/◌, ◌%◌, ◌≤◌, ◌<◌}
use native.Mathlib.Omega.{arith}
use native.Mathlib.Numerals.{add-one}
use lib.Dec.{eqb}
use lib.ListN.{length, get_or, take, drop}
use lib.Seq.{sets, drop-cons, drop-drop, get_or-drop}
use Rattle.image.proofs.Imaging.{front}
use Rattle.text.specs.Number.{got, none}
use Rattle.rules.specs.Tables.{rules}
use Rattle.why.specs.Report.{line_if, lines_for, whole_of}

module _ (m i : ℕ) (times : List ℕ) (h : i < 8) where
  -- the line of rule i
  abbrev pub line_at : List ℕ
  line_at = line_if (eqb (m % 2) 1) (get_or rules i 0) (get_or times i 0)

  step : lines_for m (drop i rules) (drop i times) ≡ line_at ++ lines_for (m / 2) (drop (i + 1) rules) (drop (i + 1) times)
  step =
      ap (λ (ns : List ℕ). lines_for m ns (drop i times)) (drop-cons rules i 0 h)
      ∙ (λ j. line_if (eqb (m % 2) 1) (get_or rules i 0) (first j) ++ lines_for (m / 2) (drop (sym (add-one i) j) rules) (drop-drop 1 i times j))
    where
      first : get_or (drop i times) 0 0 ≡ get_or times i 0
      first = get_or-drop i times 0 0 ∙ ap (λ (k : ℕ). get_or times k 0) (let e : i + 0 ≡ i = omega arith in e)

  pub line_next : (out : List ℕ) (next : ℕ) → next + length line_at ≤ length out
      → take (next + length line_at) (sets out next line_at) ++ lines_for (m / 2) (drop (i + 1) rules) (drop (i + 1) times) ≡ take next out ++ lines_for m (drop i rules) (drop i times)
  line_next out next k =
      ap (λ (l : List ℕ). l ++ lines_for (m / 2) (drop (i + 1) rules) (drop (i + 1) times)) (front out next line_at k)
      ∙ append_assoc (take next out) line_at (lines_for (m / 2) (drop (i + 1) rules) (drop (i + 1) times))
      ∙ ap (λ (l : List ℕ). take next out ++ l) (sym step)

-- what was written from the front on
pub written : (out x y : List ℕ) (r : ℕ) → x ≡ sets out 0 y → r ≡ 0 + length y → 0 + length y ≤ length out → take r x ≡ y
written out x y r e n h = (λ i. take (n i) (e i)) ∙ front out 0 y h

-- a number that is followed by more
pub whole_more : (word : List ℕ) (n end : ℕ) → end < length word → whole_of (got n (drop end word)) ≡ none
whole_more word n end h = rw (drop-cons word end 0 h)
