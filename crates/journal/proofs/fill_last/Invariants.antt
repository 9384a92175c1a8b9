-- `journal::fill_last` meets its contract. Assumes nothing.
use mathlib.Core.Path.{◌≡◌}
use Rattle.journal.specs.Area.{filled}
use Rattle.journal.proofs.fill_last.Given as goal

abbrev pub invariant-loop-k : goal.invariant-loop-k
invariant-loop-k l = l.area ≡ filled l.initial.area l.at l.k
