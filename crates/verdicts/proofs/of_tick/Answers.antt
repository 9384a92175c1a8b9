-- `verdicts::of_tick` meets its contract. Assumes nothing.
use mathlib.Core.Path.{sym, ◌∙◌}
use mathlib.Core.Bool.{true, false}
use Rattle.buffer.specs.Layout.{facts_of}
use Rattle.ticking.proofs.Ticking.{in_time, late, ruled}
use Rattle.verdicts.proofs.of_tick.Goals as goal

pub returns-then-not-timely-clause-value : goal.returns-then-not-timely-clause-value
unfolding facts_of
returns-then-not-timely-clause-value c = sym (late c.args.s.now c.requires c.args.t (sym c.timely.ensures ∙ c.if-not-timely.true))

pub orders-requires-clause-s_bound : goal.orders-requires-clause-s_bound
unfolding facts_of
orders-requires-clause-s_bound c = in_time c.args.s.now c.requires c.args.t (sym c.timely.ensures ∙ c.if-not-timely.false)

pub returns-then-orders-clause-value : goal.returns-then-orders-clause-value
unfolding facts_of
returns-then-orders-clause-value c =
    sym (ruled c.args.s.now c.requires c.args.t (sym c.timely.ensures ∙ c.if-not-timely.false) true (sym c.orders.ensures ∙ c.if-orders.true))

pub returns-clause-value : goal.returns-clause-value
unfolding facts_of
returns-clause-value c =
    sym (ruled c.args.s.now c.requires c.args.t (sym c.timely.ensures ∙ c.if-not-timely.false) false (sym c.orders.ensures ∙ c.if-orders.false))
