-- What is promised of a buffer over time: the lists grow by a permit, a blocked request asked
-- again, and demand 3 after anything that was done. Assumes nothing.
use Rattle.std.specs.Prelude.{◌≡◌, true, false, List, [], ◌∷◌, ◌++◌, ◌≢◌, ℕ, ◌+◌, ◌-◌, ◌≤◌, ◌<◌, leb, length}
use Rattle.rules.specs.declared.Answer.{Answer}
use Rattle.rules.specs.Calls.{Call, timed, typed, answer}
use Rattle.rules.specs.declared.Event.TheVariants.{Ask as ask}
use Rattle.rules.specs.Tables.{highest_time, Kind, goes, among, limiting}
use Rattle.rules.specs.Rules.{newest, short}
use Rattle.rules.specs.Told.{tells, ruled, ruled_all, told}
use Rattle.rules.specs.Direct.{Direct}
use Rattle.rules.specs.Demand3.{Demand3}
use Rattle.buffer.specs.Layout.{lay, place, row}
use Rattle.buffer.specs.Good.{good}
use Rattle.clock.specs.Call.{call_answer, Says}
use Rattle.reasons.specs.Why.{reasons, why_of}
use Rattle.at.specs.Lines.{read_line}
use Rattle.command.specs.Command.{CommandSays}
use Rattle.gate.specs.History.{Since, record_since}

-- ---- Demand 2: the lists, from the buffer b to the buffer x, by a permit of request q at t, or by
-- a reset that is ordered, which is as request 5

pub record Grows (b : List ℕ) (t q : ℕ) (x : List ℕ) : Type 0 where
  -- "A permit at t is added to: attach (0, 1), activation (2), PDP (2, 4), SMS (3), reset (5)"; "At
  -- 255 the oldest goes"
  pub added : (k : Kind) → goes q k ≡ true → row x (place k) ≡ newest (row b (place k) ++ (t ∷ []))
  pub others : (k : Kind) → goes q k ≡ false → row x (place k) ≡ row b (place k)

-- ---- Request 4: request q, answered a at t by a limit, which left y, and asked again with nothing
-- in between

pub record AskedAgain (t q : ℕ) (a : Answer) (y : List ℕ) : Type 0 where
  -- at any second before those of the answer are over, the same limit answers, with what is left of
  -- them
  pub too_early : (u : ℕ) (r : Answer) (z : List ℕ) → Says y (timed u (ask q)) r z → t ≤ u → u < t + a.second → u ≤ highest_time
      → r ≡ answer a.number (t + a.second - u)
  -- after exactly so many, or more, that limit does not answer
  pub in_time : (u : ℕ) (r : Answer) (z : List ℕ) → Says y (timed u (ask q)) r z → t + a.second ≤ u → r.number ≢ a.number

-- ---- Demand 3: of the buffer x after what was done since the last opening or turning that was
-- accepted

pub record OnTheBuffer (h : Since) (x : List ℕ) : Type 0 where
  -- the answers that were given are the rules' answers over the record, one by one
  pub answers : h.answers ≡ ruled_all h.given [] h.before
  -- so the record of what was called and answered is the rules' own
  pub as_told : record_since h ≡ told h.given h.before
  -- whatever a call's promise allows as its answer is the rules' answer over that record
  pub next : (c : Call) (r : Answer) (y : List ℕ) → Says x c r y → r ≡ ruled h.given (record_since h) c
  -- so of an AT line, by the promise of its own call
  pub next_line : (line room : List ℕ) (r : Answer) (y z : List ℕ) → leb 16 (length room) ≡ true → CommandSays x line room r y z
      → r ≡ ruled h.given (record_since h) (typed (read_line line))
  -- the sentences of demand 3
  pub demand : Demand3 h.given (record_since h) (λ c. call_answer x c)
  -- and whoever keeps those that know no rule answers every call as the buffer does
  pub whole : (other : Call → Answer) → Direct h.given (record_since h) other → (c : Call) → other c ≡ call_answer x c
  -- a request that a limit blocks, asked again
  pub again : (t q : ℕ) (a : Answer) (y : List ℕ) → Says x (timed t (ask q)) a y → among a.number limiting ≡ true → AskedAgain t q a y
  -- the 1,331 places are what the record tells, each list cut to its newest 255
  pub places : x ≡ lay (short (tells h.given (record_since h)))
  pub stays_good : good x ≡ true
  -- why a request would not be permitted is told as the record has it
  pub why : (t q : ℕ) → why_of x t q ≡ reasons (tells h.given (record_since h)) t q
