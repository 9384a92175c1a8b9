-- What opening promises leaves one result only. Assumes nothing.
use mathlib.Core.Path.{◌≡◌, sym, ◌∙◌}
use mathlib.Core.List.{List}
use Prim.Native.Nat.{ℕ}
use Rattle.rules.specs.declared.Answer.{Answer}
use Rattle.opening.specs.Open.{Order, OpenSays}

pub one_result : {b x x' : List ℕ} {o : Order} {r r' : Answer} → OpenSays b o r x → OpenSays b o r' x' → (r ≡ r') × (x ≡ x')
one_result p q = (p.answered ∙ sym q.answered, p.left ∙ sym q.left)
