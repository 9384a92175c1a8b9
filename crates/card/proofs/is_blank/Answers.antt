-- `card::is_blank` meets its contract. Assumes nothing.
use Rattle.std.proofs.Common.{ℕ, eqb, ◌∙◌, rules, tests}
use Rattle.std.proofs.lemmas.Iterator.{YieldsList-from_slice}
use Rattle.std.proofs.lemmas.Iterator.Search.{all_from_yields_List}
use Rattle.card.proofs.Blank.{blank_all}
use Rattle.card.proofs.is_blank.Goals as goal

pub returns : goal.returns
returns c =
    let p = c.args.p.now in
    all_from_yields_List (λ (b : ℕ). eqb b 0) _ _ _ c.all.ensures.ran (YieldsList-from_slice p c.iter.ensures.rest) (λ x b q k. search (rules, tests)) ∙ blank_all p
