-- `saving::save_in` meets its contract. Assumes nothing.
use Rattle.card.specs.Card.{written}
use Rattle.saving.proofs.save_in.Goals as goal

pub returns : goal.returns
unfolding written
returns c = cc
