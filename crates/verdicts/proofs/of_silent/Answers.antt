-- `verdicts::of_silent` meets its contract. Assumes nothing.
use Prim.Native.Nat.{ℕ}
use mathlib.Core.Path.{ap, ◌∙◌}
use native.Mathlib.Omega.{arith}
use Rattle.rules.specs.declared.Event.TheVariants.{Outcome as outcome}
use Rattle.rules.specs.declared.Outcome.TheVariants.{Silent as silent}
use Rattle.rules.specs.Calls.{timed}
use Rattle.rules.specs.Rules.{refusal, in_range, stands, failed, verdict}
use Rattle.services.specs.Services.{index_of}
use Rattle.refusals.proofs.Found.{passed_on, err_told}
use Rattle.buffer.specs.Layout.{facts_of, view}
use Rattle.outcome.proofs.Outcomes.{failed_goes_on}
use Rattle.verdicts.proofs.Verdicts.{accepts}
use Rattle.verdicts.proofs.of_silent.Goals as goal

pub returns-in_err-service-clause-value : goal.returns-in_err-service-clause-value
unfolding refusal in_range stands
returns-in_err-service-clause-value c =
    let a = c.args in
    rw (passed_on c.from_residual.result _ c.from_residual.ensures.1)
    (err_told (view a.s.now) (timed a.t (outcome a.number silent)) _ c.in_err-service.ensures.check)

pub returns-clause-value : goal.returns-clause-value
unfolding refusal in_range stands verdict
returns-clause-value c =
    let a = c.args in
    accepts a.s.now c.requires a.t (outcome a.number silent) c.in_ok-service.ensures.check
    (c.failing.ensures ∙ ap (λ (i : ℕ). failed (facts_of a.s.now) i 20) c.in_ok-service.ensures.found)

pub returns-clause-refused : goal.returns-clause-refused
returns-clause-refused c = let a = c.args in failed_goes_on (facts_of a.s.now) (index_of c.in_ok-service.service) 20 (omega arith) c.failing.ensures
