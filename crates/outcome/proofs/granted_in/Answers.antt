-- `outcome::granted_in` meets its contract. Assumes nothing.
use mathlib.Core.Path.{sym, ap, ◌∙◌}
use Prim.Native.Nat.{ℕ}
use Rattle.rules.specs.declared.Event.TheVariants.{Outcome as outcome}
use Rattle.rules.specs.declared.Outcome.TheVariants.{Granted as granted}
use Rattle.rules.specs.Rules.{refusal, in_range, stands, on_granted}
use Rattle.buffer.specs.Layout.{facts_of}
use Rattle.outcome.specs.Outcome.{served}
use Rattle.outcome.proofs.Outcomes.{says_why, says_granted}
use Rattle.outcome.proofs.granted_in.Goals as goal

pub returns-in_err-service-clause-says : goal.returns-in_err-service-clause-says
unfolding refusal in_range stands
returns-in_err-service-clause-says c =
    let a = c.args in
    says_why a.s.now c.requires a.t (outcome a.number granted) c.from_residual.result _ c.from_residual.ensures.1 c.in_err-service.ensures.check

pub returns-clause-says : goal.returns-clause-says
unfolding refusal in_range stands
returns-clause-says c =
    let a = c.args in
    let found = c.in_ok-service.ensures in
    says_granted a.s.now c.requires a.t a.number (sym found.check)
    (c.grant.ensures ∙ ap (λ (i : ℕ). served a.s.now a.t (on_granted i (facts_of a.s.now).services)) found.found)
