-- `outcome::dropped_in` meets its contract. Assumes nothing.
use mathlib.Core.Path.{refl, sym}
use Rattle.rules.specs.declared.Event.TheVariants.{Dropped as dropped}
use Rattle.buffer.specs.Layout.{facts_of}
use Rattle.outcome.proofs.Outcomes.{dropped_refusal, says_why, says_dropped}
use Rattle.outcome.proofs.dropped_in.Goals as goal

pub returns-in_err-refuse-clause-says : goal.returns-in_err-refuse-clause-says
unfolding facts_of
returns-in_err-refuse-clause-says c =
    let a = c.args in
    says_why a.s.now c.requires a.t dropped c.from_residual.result _ c.from_residual.ensures.1 (dropped_refusal a.s.now a.t _ c.in_err-refuse.ensures c.timely.ensures)

pub returns-clause-says : goal.returns-clause-says
unfolding facts_of
returns-clause-says c =
    let a = c.args in
    says_dropped a.s.now c.requires a.t (sym (dropped_refusal a.s.now a.t 0 c.in_ok-refuse.ensures c.timely.ensures)) c.advance.ensures refl
