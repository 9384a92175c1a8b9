-- `image::read` meets its contract: what was read, and the numbers of the bytes that are left, are
-- all the numbers. Assumes nothing.
use Prim.Native.Nat.{◌*◌}
use mathlib.Core.Path.{◌≡◌}
use lib.ListN.{take, drop}
use mathlib.Core.List.{◌++◌}
use Rattle.image.specs.Image.{numbers_of}
use Rattle.image.proofs.read.Given as goal

abbrev pub invariant-loop-i : goal.invariant-loop-i
invariant-loop-i l = take l.i l.numbers ++ numbers_of (drop (4 * l.i) l.bytes) ≡ numbers_of l.bytes
