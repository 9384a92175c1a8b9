-- `verdicts::verdict` meets its contract, event by event. Assumes nothing.
use Rattle.verdicts.proofs.verdict.Goals as goal

pub returns-in-Ask : goal.returns-in-Ask
returns-in-Ask c = rw c.in-Ask.is c.decide.ensures

pub returns-in-Outcome : goal.returns-in-Outcome
returns-in-Outcome c = rw c.in-Outcome.is c.of_outcome.ensures

pub returns-in-Dropped : goal.returns-in-Dropped
returns-in-Dropped c = rw c.in-Dropped.is c.of_dropped.ensures

pub returns-in-Tick : goal.returns-in-Tick
returns-in-Tick c = rw c.in-Tick.is c.of_tick.ensures
