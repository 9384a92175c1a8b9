-- `lines::two` meets its contract. Assumes nothing.
use mathlib.Core.Path.{◌∙◌}
use native.Mathlib.Omega.{arith}
use Rattle.opening.proofs.Copying.{stored}
use Rattle.lines.specs.Line.{printed_two}
use Rattle.lines.proofs.two.Goals as goal

pub returns-clause-out_after : goal.returns-clause-out_after
returns-clause-out_after c = let x = c.args in let e = c.put_two.ensures in (e.out_after.0 ∙ stored x.out.now (printed_two x.a) 0 (omega (arith, e.out_after.1)), omega (arith, e.out_after.1))
