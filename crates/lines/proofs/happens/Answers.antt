-- `lines::happens` meets its contract. Assumes nothing.
use Rattle.rules.specs.Calls.{timed}
use Rattle.calls.specs.Written.{when, what}
use Rattle.clock.proofs.Saying.{says_bad}
use Rattle.lines.proofs.happens.Goals as goal

pub returns-in-None : goal.returns-in-None
returns-in-None c = let a = c.args in rw c.into.ensures (says_bad a.s.now (timed (when a.call) (what a.call)) c.in-None.ensures.cases)
