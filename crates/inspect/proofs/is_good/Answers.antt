-- `inspect::is_good` meets its contract. Assumes nothing.
use Rattle.buffer.specs.Good.{good}
use borrow.Author.Rules.{rules}
use Rattle.inspect.proofs.is_good.Goals as goal

pub returns : goal.returns
unfolding good
returns c = search rules
