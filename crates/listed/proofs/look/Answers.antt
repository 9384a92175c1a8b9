-- `listed::look` meets its contract. Assumes nothing.
use mathlib.Core.Path.{sym, ap, ◌∙◌}
use lib.ListN.{take}
use Rattle.listing.specs.Listing.{line_in}
use Rattle.listed.proofs.Holding.{held_blank, held_torn, held_line, held_bad}
use Rattle.journal.specs.Area.{erased}
use Rattle.listed.proofs.look.Goals as goal

pub returns-then-all_erased-clause-out_after : goal.returns-then-all_erased-clause-out_after
returns-then-all_erased-clause-out_after c =
    let o = c.args in
    held_blank o.area.now o.i (sym (c.all_erased.ensures ∙ ap erased c.record-rec.ensures) ∙ c.if-all_erased.true)

pub returns-then-is_torn-clause-out_after : goal.returns-then-is_torn-clause-out_after
returns-then-is_torn-clause-out_after c =
    let o = c.args in
    let e = sym (c.all_erased.ensures ∙ ap erased c.record-rec.ensures) ∙ c.if-all_erased.false in
    held_torn o.area.now o.i e (sym c.is_torn.ensures ∙ c.if-is_torn.true)

pub returns-in-Some-clause-out_after : goal.returns-in-Some-clause-out_after
returns-in-Some-clause-out_after c =
    let o = c.args in
    let w = c.record-rec.ensures in
    let e = sym (c.all_erased.ensures ∙ ap erased w) ∙ c.if-all_erased.false in
    let t = sym c.is_torn.ensures ∙ c.if-is_torn.false in
    held_line o.area.now o.i e t (take c.in-Some.n c.print.new.out) (c.in-Some.ensures.out_after ∙ ap line_in w)

pub returns-in-None-clause-out_after : goal.returns-in-None-clause-out_after
returns-in-None-clause-out_after c =
    let o = c.args in
    let w = c.record-rec.ensures in
    let e = sym (c.all_erased.ensures ∙ ap erased w) ∙ c.if-all_erased.false in
    let t = sym c.is_torn.ensures ∙ c.if-is_torn.false in
    held_bad o.area.now o.i e t (c.in-None.ensures.out_after ∙ ap line_in w)
