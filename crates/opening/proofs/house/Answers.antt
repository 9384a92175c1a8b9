-- `opening::house` meets its contract. Assumes nothing.
use mathlib.Core.List.{[], ◌∷◌}
use native.Mathlib.Omega.{arith}
use Rattle.buffer.specs.Places.{HOUSE}
use Rattle.opening.proofs.Copying.{stored}
use Rattle.opening.proofs.house.Goals as goal

pub returns : goal.returns
returns c = let a = c.args in stored a.s.now (a.a1 ∷ a.s1 ∷ []) HOUSE (omega arith)
