-- `causes::rp_error` meets its contract. Assumes nothing.
use mathlib.Core.Path.{refl}
use Rattle.causes.specs.Tables.{means}
use Rattle.causes.proofs.Table.{errs}
use Rattle.causes.proofs.rp_error.Goals as goal

pub returns : goal.returns
unfolding means
returns c = errs 3 _ _ c.at.ensures refl
