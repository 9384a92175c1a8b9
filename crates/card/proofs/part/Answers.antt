-- `card::part` meets its contract. Assumes nothing.
use mathlib.Core.Path.{◌≡◌, refl, sym, ◌∙◌}
use mathlib.Core.Bool.{false}
use lib.Seq.{length-take-le}
use Rattle.card.specs.Card.{both_good}
use Rattle.card.proofs.Chosen.{both_by, long_enough, is_part, no_part}
use Rattle.card.proofs.part.Goals.{else-is_good_or_absent-via-then-is_good_or_absent+else-is_file, else-is_good_or_absent-via-else-is_good_or_absent}
use Rattle.card.proofs.part.Goals as goal

pub slice_bounds-result-end : goal.slice_bounds-result-end
slice_bounds-result-end c =
    let a = c.args in
    sym (length-take-le _ _ (long_enough a.long a.n a.card a.own _ c.ruling_file-file.ensures c.requires (both_by _ _ _ _ (sym c.if-is_good_or_absent.true ∙ c.is_good_or_absent.ensures) (sym c.if-is_file.true ∙ c.is_file.ensures))))

pub returns-then-is_file : goal.returns-then-is_file
returns-then-is_file c =
    let a = c.args in
    is_part a.long a.n a.card a.own _ c.ruling_file-file.ensures (both_by _ _ _ _ (sym c.if-is_good_or_absent.true ∙ c.is_good_or_absent.ensures) (sym c.if-is_file.true ∙ c.is_file.ensures)) _ refl refl

pub returns-else-is_good_or_absent : goal.returns-else-is_good_or_absent
returns-else-is_good_or_absent c =
    let a = c.args in
    let bad : both_good a.long a.n a.card.now a.own.now ≡ false
    = elim c.else-is_good_or_absent.branch [
      | else-is_good_or_absent-via-then-is_good_or_absent+else-is_file w ↦ both_by _ _ _ _ (sym w.if-is_good_or_absent.true ∙ c.is_good_or_absent.ensures) (sym w.if-is_file.false ∙ w.is_file.ensures)
      | else-is_good_or_absent-via-else-is_good_or_absent w ↦ both_by _ _ _ _ (sym w.if-is_good_or_absent.false ∙ c.is_good_or_absent.ensures) refl
    ] in
    no_part a.long a.n a.card a.own _ c.ruling_file-file.ensures bad _ refl refl
