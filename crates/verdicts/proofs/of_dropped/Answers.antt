-- `verdicts::of_dropped` meets its contract. Assumes nothing.
use mathlib.Core.Path.{refl}
use Rattle.rules.specs.declared.Event.TheVariants.{Dropped as dropped}
use Rattle.rules.specs.Rules.{verdict}
use Rattle.buffer.specs.Layout.{facts_of}
use Rattle.outcome.proofs.Outcomes.{dropped_refusal}
use Rattle.verdicts.proofs.Verdicts.{checks_only}
use Rattle.verdicts.proofs.of_dropped.Goals as goal

pub returns-clause-value : goal.returns-clause-value
unfolding facts_of verdict
returns-clause-value c =
    let d = dropped_refusal c.args.s.now c.args.t _ c.refuse.ensures c.timely.ensures in
    rw c.and.ensures (checks_only c.args.s.now c.requires c.args.t dropped c.refuse.result d refl)
