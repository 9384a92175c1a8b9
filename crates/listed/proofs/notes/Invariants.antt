-- `listed::notes` meets its contract. Assumes nothing.
use mathlib.Core.List.{◌++◌}
use mathlib.Core.Path.{◌≡◌}
use Prim.Native.Nat.{◌≤◌, ◌*◌, ◌-◌}
use lib.ListN.{take}
use Rattle.listed.specs.Slots.{note_at, from, notes_of}
use Rattle.listed.proofs.notes.Given as goal

abbrev pub invariant-loop-i : goal.invariant-loop-i
invariant-loop-i l = (l.at ≤ 24 * l.i) × (take l.at l.out ++ from (note_at l.area) (512 - l.i) l.i ≡ notes_of l.area)
