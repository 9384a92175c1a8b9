-- `outcome::rest` meets its contract. Assumes nothing.
use mathlib.Core.Path.{refl, sym, ◌∙◌}
use Rattle.services.proofs.Services.{is_pdp}
use Rattle.outcome.specs.Outcome.{rested}
use Rattle.outcome.proofs.rest.Goals as goal

pub returns-then-eq : goal.returns-then-eq
unfolding rested
returns-then-eq c =
    let e = sym (is_pdp c.args.service) ∙ sym c.eq.ensures ∙ c.if-eq.true in
    rw (e, c.index.ensures.value) refl

pub returns-else-eq : goal.returns-else-eq
unfolding rested
returns-else-eq c =
    let e = sym (is_pdp c.args.service) ∙ sym c.eq.ensures ∙ c.if-eq.false in
    rw (e, c.index.ensures.value) refl
