-- `ticking::orders` meets its contract. Assumes nothing.
use mathlib.Core.Path.{sym, ap, ◌∙◌}
use mathlib.Core.Bool.{not, not-not}
use Rattle.deciding.proofs.Deciding.{row_stands, row_rises}
use Rattle.ticking.proofs.Ticking.{not_due, rpm_off, by_N1}
use Rattle.ticking.proofs.orders.Goals as goal

pub returns-then-due-eq0 : goal.returns-then-due-eq0
returns-then-due-eq0 c = not_due c.args.s.now c.args.t c.then-due-eq0.either

pub returns-then-not-row : goal.returns-then-not-row
returns-then-not-row c =
    let r = c.limit-row in
    rpm_off c.args.s.now c.args.t c.if-due-eq0.false c.if-t-due.false r.result r.ensures c.if-not-row.true

pub blocked_for-requires : goal.blocked_for-requires
blocked_for-requires c =
    let a = c.args in
    let r = c.limit-row in
    record { listed = row_stands a.s.now a.t 5 0 r.result r.ensures c.requires.s_value; list_value = row_rises a.s.now a.t 5 0 r.result r.ensures c.requires.s_value c.requires.s_bound }

pub returns : goal.returns
returns c =
    let a = c.args in
    let r = c.limit-row in
    let o = c.blocked_for in
    sym (not-not c.is_none.result)
    ∙ ap not (sym c.is_none.ensures)
    ∙ by_N1 a.s.now a.t c.if-due-eq0.false c.if-t-due.false r.result r.ensures c.if-not-row.false c.requires.s_value c.requires.s_bound o.result o.ensures
