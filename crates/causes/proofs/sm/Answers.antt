-- `causes::sm` meets its contract. Assumes nothing.
use mathlib.Core.Path.{refl}
use Rattle.causes.proofs.Table.{acts}
use Rattle.causes.proofs.sm.Goals as goal

pub returns : goal.returns
returns c = acts 2 _ _ c.at.ensures refl
