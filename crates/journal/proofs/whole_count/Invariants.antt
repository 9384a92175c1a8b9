-- `journal::whole_count` meets its contract. Assumes nothing.
use Prim.Native.Nat.{◌+◌}
use mathlib.Core.Path.{◌≡◌}
use lib.ListN.{length, drop}
use Rattle.journal.specs.Area.{slots, records, count}
use Rattle.journal.proofs.whole_count.Given as goal

abbrev pub invariant-loop-i : goal.invariant-loop-i
invariant-loop-i l = l.i + length (records (drop l.i (slots l.area))) ≡ count l.area
