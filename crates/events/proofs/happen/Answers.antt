-- `events::happen` meets its contract. Assumes nothing.
use Rattle.rules.specs.Calls.{timed}
use Rattle.clock.proofs.Saying.{says_bad}
use Rattle.events.proofs.happen.Goals as goal

pub returns-in_default : goal.returns-in_default
returns-in_default c = let a = c.args in rw c.into.ensures (says_bad a.s.now (timed a.t a.e) c.in_default.ensures.cases)
