-- `noting::command` meets its contract. Assumes nothing.
use native.Mathlib.Omega.{arith}
use Rattle.noting.proofs.Lining.{line_short, line_bad}
use Rattle.noting.proofs.command.Goals as goal

pub returns-in_default : goal.returns-in_default
returns-in_default c =
    let a = c.args in
    rw c.into-in_default.ensures (line_short a.state.now a.area.now a.line.now a.out.now (omega arith) c.in_default.ensures.cases)

pub returns-in_default-good_mut : goal.returns-in_default-good_mut
returns-in_default-good_mut c =
    let a = c.args in
    let area = c.in-Some.ensures.cases in
    rw (c.into-in_default-good_mut.ensures, area.same)
    (line_bad a.state.now a.area.now a.line.now a.out.now (omega arith) area.long c.in_default-good_mut.ensures.cases)
