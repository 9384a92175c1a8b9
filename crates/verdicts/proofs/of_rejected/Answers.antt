-- `verdicts::of_rejected` meets its contract. Assumes nothing.
use mathlib.Core.Path.{ap, ◌∙◌}
use Rattle.rules.specs.declared.Event.TheVariants.{Outcome as outcome}
use Rattle.rules.specs.declared.Outcome.TheVariants.{Rejected as rejected}
use Rattle.rules.specs.Calls.{timed}
use Rattle.rules.specs.Causes.{action}
use Rattle.rules.specs.Rules.{failed, verdict}
use Rattle.rules.proofs.Checks.{action_low}
use Rattle.services.specs.Services.{index_of}
use Rattle.refusals.proofs.Found.{passed_on, err_told}
use Rattle.buffer.specs.Layout.{facts_of, view}
use Rattle.outcome.proofs.Outcomes.{rejected_refusal, failed_goes_on}
use Rattle.verdicts.proofs.Verdicts.{accepts}
use Rattle.verdicts.proofs.of_rejected.Goals as goal

pub returns-in_err-service-clause-value : goal.returns-in_err-service-clause-value
returns-in_err-service-clause-value c =
    let a = c.args in
    rw (passed_on c.from_residual.result _ c.from_residual.ensures.1)
    (err_told (view a.s.now) (timed a.t (outcome a.number (rejected a.cause a.second a.column))) _
    (rejected_refusal a.s.now a.t _ a.number a.cause a.second a.column c.in_err-service.ensures.check c.told.ensures))

pub returns-clause-value : goal.returns-clause-value
unfolding verdict
returns-clause-value c =
    let a = c.args in
    let found = c.in_ok-service.ensures in
    accepts a.s.now c.requires a.t (outcome a.number (rejected a.cause a.second a.column))
    (rejected_refusal a.s.now a.t 0 a.number a.cause a.second a.column found.check c.told.ensures)
    (c.failing.ensures ∙ (λ j. failed (facts_of a.s.now) (found.found j) (c.action.ensures j)))

pub returns-clause-refused : goal.returns-clause-refused
returns-clause-refused c =
    let a = c.args in
    let i = index_of c.in_ok-service.service in
    failed_goes_on (facts_of a.s.now) i (action a.column a.cause a.second) (action_low a.column a.cause a.second)
    (c.failing.ensures ∙ ap (failed (facts_of a.s.now) i) c.action.ensures)
