-- A timed call as it is written: when it happens, and what. Assumes nothing.
use Rattle.std.specs.Prelude.{ℕ, get_or}
use Rattle.rules.specs.declared.Event.{Event}
use Rattle.calls.specs.declared.Call.{Call}
use Rattle.calls.specs.Letters.{event_of}

-- the first number is the time
abbrev pub when : Call → ℕ
when c = get_or c.numbers.now 0 0

abbrev pub what : Call → Event
what c = event_of c.letter c.numbers.now
