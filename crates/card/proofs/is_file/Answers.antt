-- `card::is_file` meets its contract. Assumes nothing.
use mathlib.Core.Path.{ap, ◌∙◌}
use borrow.Author.Tests.{eq-eqb, ne_eqb}
use Rattle.card.specs.Card.{blank, file}
use Rattle.card.proofs.Blank.{rest}
use Rattle.card.proofs.is_file.Goals as goal

pub returns-then-p-long : goal.returns-then-p-long
unfolding file
returns-then-p-long c = let a = c.args in rw (eq-eqb _ _ c.if-p-long.true) (c.is_blank.ensures ∙ ap blank (rest a.n a.p.now))

pub returns-else-p-long : goal.returns-else-p-long
unfolding file
returns-else-p-long c = rw (ne_eqb _ _ c.if-p-long.false)
