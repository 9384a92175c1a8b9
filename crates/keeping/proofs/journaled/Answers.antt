-- `keeping::journaled` meets its contract. Assumes nothing.
use Rattle.calls.specs.Written.{when, what}
use Rattle.records.specs.Records.{Noted, times}
use Rattle.keeping.proofs.Calling.{journal_short, journal_bad}
use Rattle.keeping.proofs.journaled.Goals as goal

pub returns-in_default : goal.returns-in_default
returns-in_default c =
    let a = c.args in
    let n : Noted = times (when a.call) (what a.call) in
    rw c.into.ensures (journal_short a.state.now a.area.now n c.in_default.ensures.cases)

pub returns-in_default-good_mut : goal.returns-in_default-good_mut
returns-in_default-good_mut c =
    let a = c.args in
    let n : Noted = times (when a.call) (what a.call) in
    let area = c.in-Some.ensures.cases in
    rw (c.into-in_default-good_mut.ensures, area.same) (journal_bad a.state.now a.area.now n area.long c.in_default-good_mut.ensures.cases)
