-- `deciding::blocked_for` meets its contract. Assumes nothing.
use native.Mathlib.Omega.{arith}
use borrow.Author.Tests.{not-true, not-false, lt-ltb}
use Rattle.deciding.proofs.blocked_for.Goals as goal

pub returns-then-not-row : goal.returns-then-not-row
returns-then-not-row c = rw (not-true c.args.row.applies c.if-not-row.true)

pub returns-then-row-eq0 : goal.returns-then-row-eq0
returns-then-row-eq0 c = rw (not-false c.args.row.applies c.if-not-row.false, c.if-row-eq0.true)

pub returns : goal.returns
returns c =
    let x = c.args.row in
    rw (not-false x.applies c.if-not-row.false, lt-ltb 0 x.most (omega arith)) c.list_full_for.ensures
