-- `command::told` meets its contract. Assumes nothing.
use mathlib.Core.Path.{refl}
use Rattle.buffer.specs.Segments.{paste}
use Rattle.command.proofs.told.Goals as goal

pub returns : goal.returns
unfolding paste
returns c = rw c.copy_from_slice.ensures.after refl
