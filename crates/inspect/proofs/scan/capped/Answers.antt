-- `inspect::scan::capped` meets its contract: the flag and what is left decide. Assumes nothing.
use mathlib.Core.Path.{refl}
use Rattle.inspect.proofs.Scans.{at_most_next, at_most_end}
use Rattle.inspect.proofs.scan.capped.Goals as goal

pub loop-x-init : goal.loop-x-init
loop-x-init c = refl

pub loop-x-preserved : goal.loop-x-preserved
loop-x-preserved c = at_most_next _ _ _ c.loop-x.ok c.loop-x.invariant c.loop-x-test.true

pub returns : goal.returns
returns c = at_most_end _ _ _ c.loop-x.ok c.loop-x.invariant c.loop-x-test.false
