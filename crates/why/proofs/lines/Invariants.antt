-- `why::lines` meets its contract: what was written, and the lines of the rules that are left, are
-- all the lines. Assumes nothing.
use mathlib.Core.Path.{◌≡◌}
use mathlib.Core.List.{◌++◌}
use Prim.Native.Nat.{◌+◌, ◌*◌, ◌≤◌}
use lib.ListN.{take, drop}
use Rattle.rules.specs.Tables.{rules}
use Rattle.why.specs.Report.{lines_for}
use Rattle.why.proofs.lines.Given as goal

abbrev pub invariant-loop-i : goal.invariant-loop-i
invariant-loop-i l = record {
  fits : l.next ≤ l.at + 22 * l.i;
  written : take l.next l.out ++ lines_for l.left (drop l.i rules) (drop l.i l.times) ≡ take l.at l.initial.out ++ lines_for l.bits rules l.times;
}
