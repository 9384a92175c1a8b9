-- `backoff::spread_out` meets its contract. Assumes nothing.
use native.Mathlib.Nat.{mod-lt}
use native.Mathlib.Omega.{arith}
use Rattle.backoff.proofs.spread_out.Goals as goal

pub overflow_cast-result : goal.overflow_cast-result
overflow_cast-result c = omega (arith, mod-lt c.args.x {m = c.args.base} (omega arith))

pub overflow_add-result : goal.overflow_add-result
overflow_add-result c = omega (arith, mod-lt c.args.x {m = c.args.base} (omega arith))
