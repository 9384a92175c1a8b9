-- What the call promises leaves one result only. Assumes nothing.
use mathlib.Core.Path.{◌≡◌, sym, ◌∙◌}
use mathlib.Core.List.{List}
use Prim.Native.Nat.{ℕ}
use Rattle.rules.specs.declared.Answer.{Answer}
use Rattle.saving.specs.Save.{SaveSays}

pub one_result : {b out x x' y y' : List ℕ} {r r' : Answer} → SaveSays b out r x y → SaveSays b out r' x' y' → (r ≡ r') × ((x ≡ x') × (y ≡ y'))
one_result p q = (p.answered ∙ sym q.answered, (p.left ∙ sym q.left, p.room ∙ sym q.room))
