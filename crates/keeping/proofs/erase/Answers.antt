-- `keeping::erase` meets its contract. Assumes nothing.
use Rattle.keeping.proofs.Calling.{erase_done}
use Rattle.keeping.proofs.erase.Goals as goal

pub returns : goal.returns
returns c = let a = c.in-Some.ensures.cases in erase_done c.args.area.now a.long _ (rw (← a.same) c.erase.ensures)
