-- `journal::all_erased` meets its contract. Assumes nothing.
use Rattle.std.proofs.Common.{ℕ, eqb, drop, ◌∙◌, arith, rules, tests, length-drop}
use lib.Seq.{take_all}
use Rattle.std.proofs.lemmas.Iterator.{YieldsList-from_slice}
use Rattle.std.proofs.lemmas.Iterator.Search.{all_from_yields_List}
use Rattle.journal.proofs.Reading.{erased_all}
use Rattle.journal.proofs.all_erased.Goals as goal

pub returns : goal.returns
returns c =
    let l = drop c.args.from c.args.area.now in
    all_from_yields_List (λ (b : ℕ). eqb b 255) _ _ _ c.all.ensures.ran (YieldsList-from_slice l (c.iter.ensures.rest ∙ take_all _ l (omega (arith, length-drop {A = ℕ})))) (λ x b q k. search (rules, tests)) ∙ erased_all l
