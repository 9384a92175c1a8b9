-- `trace::turn` meets its contract. Assumes nothing.
use native.Mathlib.Omega.{arith}
use Rattle.trace.proofs.Turning.{held_stay, turned_from}
use Rattle.trace.proofs.turn.Goals as goal

pub returns : goal.returns
returns c =
    let a = c.arrived.ensures in
    record { held_bound_2 = a.held_bound; some_turned = (_, turned_from (held_stay c.args.c.held c.args.buf.now _ (omega arith)) a.turned) }
