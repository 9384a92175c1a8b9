-- `backoff::failing` meets its contract. Assumes nothing.
use mathlib.Core.Path.{ap}
use borrow.Author.Tests.{eq-eqb, ne_eqb}
use Rattle.buffer.specs.Layout.{facts_of}
use Rattle.rules.specs.Calls.{answer}
use Rattle.rules.specs.Rules.{failed}
use Rattle.backoff.proofs.failing.Goals as goal

pub returns-then-n-ne20 : goal.returns-then-n-ne20
unfolding failed
returns-then-n-ne20 c = rw (ne_eqb _ _ c.if-n-ne20.true)

pub returns-then-s-ne1 : goal.returns-then-s-ne1
unfolding failed facts_of
returns-then-s-ne1 c = rw (eq-eqb _ _ c.if-n-ne20.false, ne_eqb _ _ c.if-s-ne1.true)

pub returns : goal.returns
unfolding failed facts_of
returns c = rw (eq-eqb _ _ c.if-n-ne20.false, eq-eqb _ _ c.if-s-ne1.false) (ap (answer 20) c.wait.ensures)
