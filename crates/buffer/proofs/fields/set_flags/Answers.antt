-- `buffer::fields::set_flags` meets its contract: the two places are those of the flags. Assumes nothing.
use mathlib.Core.Path.{refl}
use Rattle.buffer.proofs.fields.set_flags.Goals as goal

pub returns : goal.returns
returns c = refl
