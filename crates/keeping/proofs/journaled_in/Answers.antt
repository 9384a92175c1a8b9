-- `keeping::journaled_in` meets its contract. Assumes nothing.
use mathlib.Core.Path.{◌≡◌, sym}
use borrow.Author.Rules.{rules}
use Rattle.refusals.specs.declared.Refusal.TheVariants.{Full}
use Rattle.refusals.proofs.Found.{passed_on}
use Rattle.calls.specs.Written.{when, what}
use Rattle.records.specs.Records.{Noted, times}
use Rattle.keeping.proofs.Calling.{foreseen, journal_refused, journal_full, journal_done}
use Rattle.keeping.proofs.journaled_in.Goals as goal

pub returns-in_err-a : goal.returns-in_err-a
returns-in_err-a c =
    let a = c.args in
    let b = a.state.now in
    let n : Noted = times (when a.call) (what a.call) in
    let v = c.in_err-a.ensures in
    rw (passed_on c.from_residual.result _ c.from_residual.ensures.1)
    (journal_refused b a.area.now n c.told-area _ (foreseen b c.requires n _ (rw (c.time-time.ensures, c.event-e.ensures) at v.value)) v.refused)

pub returns-in_err-map_err : goal.returns-in_err-map_err
returns-in_err-map_err c =
    let a = c.args in
    let b = a.state.now in
    let n : Noted = times (when a.call) (what a.call) in
    let v = c.in_ok-a.ensures in
    let why : c.in_err-map_err.field-0.0 ≡ Full = search rules in
    rw (passed_on c.from_residual-in_err-map_err.result _ c.from_residual-in_err-map_err.ensures.1, why)
    (journal_full b a.area.now n c.told-area _ (foreseen b c.requires n _ (rw (c.time-time.ensures, c.event-e.ensures) at v.value)) v.refused _ _ c.keep.ensures (sym c.in_err-map_err.ensures.variant))

pub returns : goal.returns
returns c =
    let a = c.args in
    let b = a.state.now in
    let n : Noted = times (when a.call) (what a.call) in
    let v = c.in_ok-a.ensures in
    journal_done b a.area.now n c.told-area _ (foreseen b c.requires n _ (rw (c.time-time.ensures, c.event-e.ensures) at v.value)) v.refused _ _ c.keep.ensures (sym c.in_ok-map_err.ensures.variant) _ _ (rw (c.time-time.ensures, c.event-e.ensures) at c.happen_in.ensures.says)
