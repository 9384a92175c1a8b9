-- `journal::first_free` meets its contract. Assumes nothing.
use Prim.Native.Nat.{◌+◌}
use mathlib.Core.Path.{◌≡◌}
use lib.ListN.{drop}
use Rattle.journal.specs.Area.{slots, free}
use Rattle.journal.proofs.first_free.Given as goal

abbrev pub invariant-loop-i : goal.invariant-loop-i
invariant-loop-i l = l.i + free (drop l.i (slots l.area)) ≡ free (slots l.area)
