-- `command::okay` meets its contract. Assumes nothing.
use mathlib.Core.Path.{ap, ◌∙◌}
use Prim.Native.Nat.{ℕ}
use lib.ListN.{length}
use Rattle.buffer.specs.Segments.{paste}
use Rattle.buffer.proofs.Listing.{back}
use Rattle.command.proofs.okay.Goals as goal

pub returns : goal.returns
returns c =
    let a = c.args in
    let bytes = c.copy_from_slice.ensures.after in
    back a.out.now a.i 4 c.copy_from_slice.new.self (ap (length {A = ℕ}) bytes) ∙ ap (paste a.out.now a.i) bytes
