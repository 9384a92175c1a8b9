-- `listed::lines` meets its contract. Assumes nothing.
use mathlib.Core.List.{◌++◌}
use mathlib.Core.Path.{◌≡◌}
use Prim.Native.Nat.{◌≤◌, ◌*◌, ◌-◌}
use lib.ListN.{take}
use Rattle.listed.specs.Slots.{line_at, from, lines_of}
use Rattle.listed.proofs.lines.Given as goal

abbrev pub invariant-loop-i : goal.invariant-loop-i
invariant-loop-i l = (l.at ≤ 128 * l.i) × (take l.at l.out ++ from (line_at l.area) (512 - l.i) l.i ≡ lines_of l.area)
