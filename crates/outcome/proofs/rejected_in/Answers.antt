-- `outcome::rejected_in` meets its contract. Assumes nothing.
use mathlib.Core.Path.{refl, sym}
use Rattle.rules.specs.declared.Event.TheVariants.{Outcome as outcome}
use Rattle.rules.specs.declared.Outcome.TheVariants.{Rejected as rejected}
use Rattle.rules.specs.Causes.{action}
use Rattle.rules.proofs.Checks.{action_low}
use Rattle.services.specs.Services.{index_of}
use Rattle.buffer.specs.Layout.{facts_of}
use Rattle.outcome.proofs.Outcomes.{failed_goes_on, rejected_refusal, says_why, passed_time, says_rejected}
use Rattle.outcome.proofs.rejected_in.Goals as goal

pub returns-in_err-service-clause-says : goal.returns-in_err-service-clause-says
returns-in_err-service-clause-says c =
    let a = c.args in
    let d = rejected_refusal a.s.now a.t _ a.number a.cause a.second a.column c.in_err-service.ensures.check c.told.ensures in
    says_why a.s.now c.requires a.t (outcome a.number (rejected a.cause a.second a.column)) c.from_residual.result _ c.from_residual.ensures.1 d

pub due-due-requires : goal.due-due-requires
due-due-requires c =
    let a = c.args in
    let d = rejected_refusal a.s.now a.t 0 a.number a.cause a.second a.column c.in_ok-service.ensures.check c.told.ensures in
    record { s_value = c.requires; t_le_highest_time = passed_time a.s.now a.t (outcome a.number (rejected a.cause a.second a.column)) (sym d) }

pub reject-a-requires : goal.reject-a-requires
reject-a-requires c =
    let a = c.args in
    let d = rejected_refusal a.s.now a.t 0 a.number a.cause a.second a.column c.in_ok-service.ensures.check c.told.ensures in
    record { s_value = c.requires; t_le_highest_time = passed_time a.s.now a.t (outcome a.number (rejected a.cause a.second a.column)) (sym d) }

pub returns-clause-says : goal.returns-clause-says
returns-clause-says c =
    let a = c.args in
    let found = c.in_ok-service.ensures in
    let d = rejected_refusal a.s.now a.t 0 a.number a.cause a.second a.column found.check c.told.ensures in
    let r = c.reject-a.ensures in
    says_rejected a.s.now c.requires a.t a.number a.cause a.second a.column (sym d) c.due-due.ensures (rw (sym found.found) r.value) (rw (sym found.found) r.s_after) refl

pub returns-clause-refused : goal.returns-clause-refused
returns-clause-refused c =
    let a = c.args in
    failed_goes_on (facts_of a.s.now) (index_of c.in_ok-service.service) (action a.column a.cause a.second) (action_low a.column a.cause a.second) c.reject-a.ensures.value
