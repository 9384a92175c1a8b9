-- `saving::save` meets its contract. Assumes nothing.
use mathlib.Core.Path.{sym}
use borrow.Author.Tests.{eq-eqb, ne_eqb}
use Rattle.saving.proofs.Saved.{says_room, says_bad, says_written}
use Rattle.saving.proofs.save.Goals as goal

pub returns-in_default : goal.returns-in_default
returns-in_default c = rw c.into.ensures (says_room (ne_eqb _ _ c.in_default.ensures.cases))

pub returns-in_default-good : goal.returns-in_default-good
returns-in_default-good c = rw (c.into-in_default-good.ensures, c.in-Some.ensures.cases.same) (says_bad c.in_default-good.ensures)

pub save_in-requires : goal.save_in-requires
save_in-requires c = rw c.in-Some-good.ensures.1 c.in-Some-good.ensures.0

pub returns : goal.returns
returns c =
    let state = c.in-Some-good.ensures in
    says_written state.0 (eq-eqb _ _ c.in-Some.ensures.cases.long) (rw (sym state.1) c.save_in.ensures)
