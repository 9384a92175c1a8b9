-- `verdicts::of_granted` meets its contract. Assumes nothing.
use mathlib.Core.Path.{refl}
use Rattle.rules.specs.declared.Event.TheVariants.{Outcome as outcome}
use Rattle.rules.specs.declared.Outcome.TheVariants.{Granted as granted}
use Rattle.rules.specs.Rules.{refusal, in_range, stands, verdict}
use Rattle.verdicts.proofs.Verdicts.{checks_only}
use Rattle.verdicts.proofs.of_granted.Goals as goal

pub returns-clause-value : goal.returns-clause-value
unfolding refusal in_range stands verdict
returns-clause-value c =
    rw c.and.ensures (checks_only c.args.s.now c.requires c.args.t (outcome c.args.number granted) c.checks.result c.checks.ensures.check refl)
