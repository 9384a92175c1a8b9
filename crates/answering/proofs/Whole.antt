-- The input cut to its end: what waits, and then whatever comes later, is what the whole prints;
-- and so of the buffer. Assumes nothing.
use mathlib.Core.Path.{◌≡◌, sym, ap, ◌∙◌}
use mathlib.Core.List.{List, [], ◌++◌}
use lib.ListN.{take}
use Prim.Native.Nat.{ℕ}
use lib.Seq.{slice, slice_empty}
use Rattle.answering.specs.declared.Left.{Left}
use Rattle.answering.specs.Through.{prints, leaves}
use Rattle.answering.specs.Cut.{begun, waiting, rest_prints, rest_leaves, Cut}

module _ {buf : List ℕ} {end : ℕ} {p q : Left} {b out x y : List ℕ} (s : Cut buf end p b out q x y) (h : q.place ≡ end) (z : p.«fill» ≡ 0) where
  none_left : slice q.place end buf ≡ []
  none_left = ap (λ (k : ℕ). slice k end buf) h ∙ slice_empty end buf

  pub whole_printed : (later : List ℕ) → waiting y q ++ prints q.skip (begun buf q) later x ≡ rest_prints buf end p b later
  whole_printed later = ap (λ (l : List ℕ). waiting y q ++ prints q.skip (begun buf q) (l ++ later) x) (sym none_left) ∙ (s.printed later ∙ ap (λ (k : ℕ). take k out ++ rest_prints buf end p b later) z)

  pub whole_left : (later : List ℕ) → leaves q.skip (begun buf q) later x ≡ rest_leaves buf end p b later
  whole_left later = ap (λ (l : List ℕ). leaves q.skip (begun buf q) (l ++ later) x) (sym none_left) ∙ s.left later
