-- `inspect::scan::capped` meets its contract: the flag and what is left decide. Assumes nothing.
use mathlib.Core.Path.{◌≡◌}
use mathlib.Core.Bool.{◌&&◌}
use lib.ListN.{drop}
use Rattle.buffer.specs.Good.{at_most}
use Rattle.inspect.proofs.scan.capped.Given as goal

abbrev pub invariant-loop-x : goal.invariant-loop-x
invariant-loop-x l = at_most l.hi l.p ≡ (l.ok && at_most l.hi (drop l.x-index l.p))
