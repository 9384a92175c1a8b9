-- `clock::gone` meets its contract. Assumes nothing.
use Rattle.clock.proofs.gone.Goals as goal

pub returns : goal.returns
returns c = cc
