-- `files::beside` meets its contract. Assumes nothing.
use mathlib.Core.Path.{refl}
use native.Mathlib.Omega.{arith}
use Rattle.files.proofs.Naming.{no_room}
use Rattle.files.proofs.beside.Goals as goal

pub returns-in_err-end : goal.returns-in_err-end
returns-in_err-end c = no_room _ _ _ c.from_residual.ensures (let e = c.in_err-end.ensures in omega (arith, e))

pub returns-then-room-end : goal.returns-then-room-end
returns-then-room-end c = no_room _ _ _ refl (let e = c.in_ok-end.ensures in omega (arith, e))
