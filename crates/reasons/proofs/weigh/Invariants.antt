-- `reasons::weigh` meets its contract: what is weighed stands behind the rest. Assumes nothing.
use mathlib.Core.Path.{◌≡◌}
use mathlib.Core.Bool.{Bool}
use mathlib.Core.List.{List, ◌++◌}
use Rattle.reasons.specs.Why.{weigh}
use Rattle.reasons.proofs.weigh.Given as goal

abbrev pub invariant-loop-b : goal.invariant-loop-b
invariant-loop-b l = (d : List Bool) × ((l.fn.stands ≡ l.b-iterator.iter.rest.now ++ d) × (l.bits ≡ weigh d))
