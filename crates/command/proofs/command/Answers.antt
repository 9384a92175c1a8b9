-- `command::command` meets its contract. Assumes nothing.
use borrow.Author.Tests.{le-leb, lt-leb}
use native.Mathlib.Omega.{arith}
use mathlib.Core.Path.{sym}
use Rattle.command.proofs.Lined.{says_room, says_bad, says_heard}
use Rattle.command.proofs.command.Goals as goal

pub returns-then-out-lt16 : goal.returns-then-out-lt16
returns-then-out-lt16 c = rw c.into.ensures (says_room (lt-leb _ _ c.if-out-lt16.true))

pub returns-in_default : goal.returns-in_default
returns-in_default c = rw c.into-in_default.ensures (says_bad c.in_default.ensures.cases)

pub returns : goal.returns
returns c =
    let whole = c.in-Some.ensures.cases in
    rw c.told.ensures
    (says_heard whole.0 (le-leb _ _ (omega arith)) (rw (sym whole.1) c.command_in.ensures.says) (rw (sym whole.1) c.command_in.ensures.written))
