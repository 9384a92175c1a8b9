-- `causes::cp` meets its contract. Assumes nothing.
use mathlib.Core.Path.{refl}
use Rattle.causes.proofs.Table.{acts}
use Rattle.causes.proofs.cp.Goals as goal

pub returns : goal.returns
returns c = acts 4 _ _ c.at.ensures refl
