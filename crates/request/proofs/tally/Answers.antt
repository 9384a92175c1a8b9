-- `request::tally` meets its contract. Assumes nothing.
use native.Mathlib.Omega.{arith}
use mathlib.Core.Path.{◌∙◌}
use Rattle.request.proofs.Acting.{tally_on, tally_below, tally_above}
use Rattle.request.proofs.tally.Goals as goal

pub returns-then-n-lt11 : goal.returns-then-n-lt11
returns-then-n-lt11 c = tally_below c.args.s.now c.args.n (grind arith)

pub returns-in-11-to-16 : goal.returns-in-11-to-16
returns-in-11-to-16 c = c.bump.ensures ∙ tally_on c.args.s.now c.args.n (grind arith) (grind arith)

pub returns-else-n-lt17 : goal.returns-else-n-lt17
returns-else-n-lt17 c = tally_above c.args.s.now c.args.n (grind arith)
