-- What the call promises leaves one result only. Assumes nothing.
use mathlib.Core.Path.{◌≡◌, sym, ◌∙◌}
use mathlib.Core.List.{List}
use Prim.Native.Nat.{ℕ}
use Rattle.rules.specs.declared.Answer.{Answer}
use Rattle.command.specs.Command.{CommandSays}

pub one_result : {b line room x x' y y' : List ℕ} {r r' : Answer} → CommandSays b line room r x y → CommandSays b line room r' x' y' → (r ≡ r') × ((x ≡ x') × (y ≡ y'))
one_result p q = (p.answered ∙ sym q.answered, (p.left ∙ sym q.left, p.written ∙ sym q.written))
