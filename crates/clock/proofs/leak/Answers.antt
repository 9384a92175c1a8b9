-- `clock::leak` meets its contract. Assumes nothing.
use Rattle.clock.specs.Clock.{leaked}
use Rattle.clock.proofs.leak.Goals as goal

pub returns : goal.returns
unfolding leaked
returns c = cc
