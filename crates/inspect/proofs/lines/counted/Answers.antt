-- `inspect::lines::counted` meets its contract. Assumes nothing.
use Rattle.buffer.specs.Good.{count_good}
use Rattle.inspect.proofs.lines.counted.Goals as goal

pub returns : goal.returns
unfolding count_good
returns c = cc
