-- What answering a line promises allows one result only: so the form for any buffer and the form
-- for a good one agree. Assumes nothing.
use mathlib.Core.Path.{◌≡◌, sym, ◌∙◌}
use mathlib.Core.List.{List}
use Prim.Native.Nat.{ℕ}
use Rattle.lines.specs.Line.{LineSays}

pub one_result : {b line room : List ℕ} {r r' : ℕ} {x x' y y' : List ℕ} → LineSays b line room r x y → LineSays b line room r' x' y' → (r ≡ r') × (x ≡ x') × (y ≡ y')
one_result s t = (s.counted ∙ sym t.counted, s.left ∙ sym t.left, s.written ∙ sym t.written)
