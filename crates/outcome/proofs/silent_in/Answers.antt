-- `outcome::silent_in` meets its contract. Assumes nothing.
use mathlib.Core.Path.{sym}
use native.Mathlib.Omega.{arith}
use Rattle.rules.specs.declared.Event.TheVariants.{Outcome as outcome}
use Rattle.rules.specs.declared.Outcome.TheVariants.{Silent as silent}
use Rattle.rules.specs.Rules.{refusal, in_range, stands}
use Rattle.services.specs.Services.{index_of}
use Rattle.buffer.specs.Layout.{facts_of}
use Rattle.outcome.proofs.Outcomes.{failed_goes_on, says_why, passed_time, says_silent}
use Rattle.outcome.proofs.silent_in.Goals as goal

pub returns-in_err-service-clause-says : goal.returns-in_err-service-clause-says
unfolding refusal in_range stands
returns-in_err-service-clause-says c =
    let a = c.args in
    says_why a.s.now c.requires a.t (outcome a.number silent) c.from_residual.result _ c.from_residual.ensures.1 c.in_err-service.ensures.check

pub fail-requires : goal.fail-requires
unfolding refusal in_range stands
fail-requires c =
    let a = c.args in
    record { s_value = c.requires; t_le_highest_time = passed_time a.s.now a.t (outcome a.number silent) (sym c.in_ok-service.ensures.check) }

pub returns-clause-says : goal.returns-clause-says
unfolding refusal in_range stands
returns-clause-says c =
    let a = c.args in
    let found = c.in_ok-service.ensures in
    let r = c.fail.ensures in
    says_silent a.s.now c.requires a.t a.number (sym found.check) (rw (sym found.found) r.value) (rw (sym found.found) r.s_after)

pub returns-clause-refused : goal.returns-clause-refused
returns-clause-refused c = failed_goes_on (facts_of c.args.s.now) (index_of c.in_ok-service.service) 20 (omega arith) c.fail.ensures.value
