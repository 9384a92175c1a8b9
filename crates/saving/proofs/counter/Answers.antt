-- `saving::counter` meets its contract. Assumes nothing.
use native.Mathlib.Omega.{arith}
use Rattle.saving.proofs.Saved.{counter_is, counter_byte}
use Rattle.saving.proofs.counter.Goals as goal

pub overflow_cast-result : goal.overflow_cast-result
overflow_cast-result c = omega (arith, counter_byte c.args.s.now c.requires.s_value c.args.i c.requires.i_bound)

pub returns : goal.returns
returns c = counter_is c.args.s.now c.requires.s_value c.args.i c.requires.i_bound
