-- `outcome::checks` meets its contract. Assumes nothing.
use mathlib.Core.Path.{◌∙◌}
use Rattle.buffer.specs.Layout.{facts_of}
use Rattle.refusals.proofs.Found.{passed_on}
use Rattle.outcome.proofs.Outcomes.{found_passes, checks_are}
use Rattle.outcome.proofs.checks.Goals as goal

pub returns-in_err-refuse-clause-check : goal.returns-in_err-refuse-clause-check
unfolding facts_of
returns-in_err-refuse-clause-check c =
    let a = c.args in
    rw (passed_on c.from_residual.result _ c.from_residual.ensures.1)
    (checks_are (facts_of a.s.now) a.t a.range a.number c.in_err-refuse.ensures c.timely.ensures (c.is_some.ensures ∙ c.asked-found.ensures.stands))

pub returns-clause-check : goal.returns-clause-check
unfolding facts_of
returns-clause-check c =
    let a = c.args in
    let d = checks_are (facts_of a.s.now) a.t a.range a.number c.in_ok-refuse.ensures c.timely.ensures (c.is_some.ensures ∙ c.asked-found.ensures.stands) in
    rw c.ok_or.ensures.value (found_passes c.asked-found.result a.range c.timely.result (rw c.is_some.ensures at c.in_ok-refuse.ensures) ∙ d)
