-- `outcome::grant` meets its contract. Assumes nothing.
use mathlib.Core.Path.{ap, ◌∙◌}
use Prim.Native.Nat.{ℕ}
use Rattle.services.specs.Services.{index_of}
use Rattle.services.proofs.Services.{four}
use Rattle.backoff.specs.Backoffs.{stored}
use Rattle.outcome.specs.Outcome.{rested}
use Rattle.outcome.proofs.Outcomes.{grants}
use Rattle.outcome.proofs.grant.Goals as goal

pub returns : goal.returns
returns c =
    let i : ℕ = index_of c.args.service in
    let on = c.advance in
    let kept = c.store in
    grants c.args.s.now c.requires c.args.t i (four c.args.service) on.ensures
    (kept.ensures ∙ ap (stored on.new.s i) c.granted.ensures)
    (c.rest.ensures ∙ ap (λ (u : ℕ). rested kept.new.s i u 0) c.up.ensures)
