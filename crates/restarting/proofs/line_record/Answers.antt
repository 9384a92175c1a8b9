-- `restarting::line_record` meets its contract. Assumes nothing.
use Rattle.restarting.proofs.Stepping.{line_as}
use native.Mathlib.Omega.{arith}
use Rattle.restarting.proofs.line_record.Goals as goal

pub returns : goal.returns
returns c = line_as c.args.state.now c.args.rec.now _ c.numbers.ensures (omega arith) _ _ c.line.ensures
