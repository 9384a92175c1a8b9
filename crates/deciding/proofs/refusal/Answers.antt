-- `deciding::refusal` meets its contract. Assumes nothing.
use mathlib.Core.Path.{◌∙◌}
use lib.Dec.{leb}
use Rattle.rules.specs.Rules.{check, in_range, refusal}
use Rattle.buffer.specs.Layout.{facts_of}
use Rattle.deciding.proofs.refusal.Goals as goal

pub returns : goal.returns
unfolding refusal in_range facts_of
returns c =
    let q = c.args.q in
    c.refuse.ensures ∙ (λ i. check (leb q 5) 2 (check (c.timely.ensures i) 3 (check (c.fits.ensures i) 4 0)))
