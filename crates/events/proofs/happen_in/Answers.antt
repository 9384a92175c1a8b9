-- `events::happen_in` meets its contract, event by event. Assumes nothing.
use Rattle.events.proofs.happen_in.Goals as goal

pub returns-in-Ask : goal.returns-in-Ask
returns-in-Ask c = rw c.in-Ask.is c.request_in.ensures

pub returns-in-Outcome : goal.returns-in-Outcome
returns-in-Outcome c = rw c.in-Outcome.is c.outcome_in.ensures

pub returns-in-Dropped : goal.returns-in-Dropped
returns-in-Dropped c = rw c.in-Dropped.is c.dropped_in.ensures

pub returns-in-Tick : goal.returns-in-Tick
returns-in-Tick c = rw c.in-Tick.is c.tick_in.ensures
