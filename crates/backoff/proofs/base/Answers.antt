-- `backoff::base` meets its contract. Assumes nothing.
use native.Mathlib.Omega.{arith}
use Rattle.backoff.proofs.Backoffs.{count_range, interval_next}
use Rattle.backoff.proofs.base.Goals as goal

pub overflow_sub-last : goal.overflow_sub-last
overflow_sub-last c = (count_range c.args.s.now c.requires).0

pub bounds-s-min : goal.bounds-s-min
bounds-s-min c = omega (arith, c.min.ensures, count_range c.args.s.now c.requires)

pub returns : goal.returns
returns c = interval_next c.args.s.now c.requires c.args.n c.min.ensures
