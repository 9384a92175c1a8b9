-- `journal::write_first` meets its contract. Assumes nothing.
use mathlib.Core.Path.{◌≡◌}
use Rattle.journal.specs.Area.{written}
use Rattle.journal.proofs.write_first.Given as goal

abbrev pub invariant-loop-k : goal.invariant-loop-k
invariant-loop-k l = l.area ≡ written l.initial.area l.at l.rec l.k
