-- `timer::due` meets its contract. Assumes nothing.
use Rattle.buffer.proofs.Sane.{imsi_low}
use Rattle.timer.proofs.Timer.{T1_low, stays, begun, due_fits}
use Rattle.timer.proofs.due.Goals as goal

pub returns-then-not-permanent-may_run : goal.returns-then-not-permanent-may_run
returns-then-not-permanent-may_run c =
    let a = c.args in
    stays a.s.now a.t a.column a.cause c.permanent.ensures c.may_run.ensures c.if-not-permanent-may_run.true

pub draw-requires : goal.draw-requires
draw-requires c = imsi_low c.args.s.now c.requires.s_value c.imsi.ensures

pub delay-requires : goal.delay-requires
delay-requires c = T1_low c.args.s.now c.requires.s_value

pub overflow_add-result : goal.overflow_add-result
overflow_add-result c = record { fits = due_fits c.args.s.now c.requires.s_value c.args.t c.draw.result c.requires.t_le_highest_time c.delay.ensures }

pub returns : goal.returns
returns c =
    let a = c.args in
    begun a.s.now a.t a.column a.cause c.permanent.ensures c.may_run.ensures c.if-not-permanent-may_run.false
    c.imsi.ensures c.draw.ensures c.delay.ensures
