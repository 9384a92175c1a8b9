-- `ticking::tick_in` meets its contract. Assumes nothing.
use mathlib.Core.Path.{sym}
use Rattle.buffer.specs.Layout.{facts_of}
use Rattle.ticking.proofs.Ticking.{in_time, ticks_late, ticks, resets}
use Rattle.ticking.proofs.tick_in.Goals as goal

pub returns-then-not-timely-clause-says : goal.returns-then-not-timely-clause-says
unfolding facts_of
returns-then-not-timely-clause-says c = ticks_late c.args.s.now c.requires c.args.t (sym c.if-not-timely.ensures)

pub orders-requires-clause-s_bound : goal.orders-requires-clause-s_bound
unfolding facts_of
orders-requires-clause-s_bound c = in_time c.args.s.now c.requires c.args.t (sym c.if-not-timely.ensures)

pub returns-then-orders-clause-says : goal.returns-then-orders-clause-says
unfolding facts_of
returns-then-orders-clause-says c =
    resets c.args.s.now c.requires c.args.t (sym c.if-not-timely.ensures) (sym c.if-orders.ensures) c.order.ensures

pub returns-clause-says : goal.returns-clause-says
unfolding facts_of
returns-clause-says c =
    ticks c.args.s.now c.requires c.args.t (sym c.if-not-timely.ensures) (sym c.if-orders.ensures) c.advance.ensures
