-- `image::write` meets its contract: what was written, and the image of the numbers that are left,
-- are the whole image. Assumes nothing.
use Prim.Native.Nat.{◌*◌}
use mathlib.Core.Path.{◌≡◌}
use lib.ListN.{take, drop}
use mathlib.Core.List.{◌++◌}
use Rattle.image.specs.Image.{image_of}
use Rattle.image.proofs.write.Given as goal

abbrev pub invariant-loop-i : goal.invariant-loop-i
invariant-loop-i l = take (4 * l.i) l.out ++ image_of (drop l.i l.numbers) ≡ image_of l.numbers
