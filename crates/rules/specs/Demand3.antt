-- The customer's third demand, over the record. Assumes nothing.
use Rattle.std.specs.Prelude.{ℕ, ◌+◌, ◌-◌, ◌*◌, ◌≤◌, ◌<◌, ◌≡◌, List, [], ◌∷◌, ◌++◌, ◌≢◌}
use Rattle.rules.specs.declared.Answer.{Answer}
use Rattle.rules.specs.Calls.{Opening, ask, tick, Call, timed, Entry, answer}
use Rattle.rules.specs.Tables.{highest_time, reset}
use Rattle.rules.specs.State.{State}
use Rattle.rules.specs.Told.{ruled, told}
use Rattle.rules.specs.Direct.{Sends, Accepted, Over, Direct}

-- `next` is how the call after the record `past` is answered
pub record Demand3 (g : State) (past : List Entry) (next : Call → Answer) : Type 0 where
  -- "answers the next request exactly as the rules do over the full record since its last opening,
  -- however long"
  pub as_the_record : (c : Call) → next c ≡ ruled g past c
  -- the rest of its sentences, in document 01's own words
  pub direct : Direct g past next

-- request q, answered a at t by limit a .number after the calls `before`, and asked again with
-- nothing in between
pub record Again (g : State) (before : List Call) (t q : ℕ) (a : Answer) : Type 0 where
  -- at any second before those of the answer are over, the same limit answers, with what is left of
  -- them
  pub too_early : (u : ℕ) → t ≤ u → u < t + a.second → u ≤ highest_time
      → ruled g (told g (before ++ (timed t (ask q) ∷ []))) (timed u (ask q)) ≡ answer a.number (t + a.second - u)
  -- after exactly so many, or more, that limit does not answer
  pub in_time : (u : ℕ) → t + a.second ≤ u
      → (ruled g (told g (before ++ (timed t (ask q) ∷ []))) (timed u (ask q))).number ≢ a.number

-- nothing of `later` resets the module
abbrev pub NoReset : List Entry → Type 0
NoReset [] = Unit {0}
NoReset (x ∷ later) = ((t : ℕ) → Sends t x.call x.answer.number 5 → ⊥) × NoReset later

-- over the record `past`, in which T1 has run since time p, a reset is ordered in T1's window: "a
-- time window of [-10%, +10%] of the average value" (RTC1 of CLP.03), which is 360 T1 seconds
pub record InTheWindow (g : State) (past : List Entry) (p : ℕ) (next : Call → Answer) : Type 0 where
  -- by no clock call before it
  pub not_early : (t : ℕ) → (next (timed t tick)).number ≡ 12 → p + 324 * g.facts.opening.T1 ≤ t
  -- and by any from its end on at which N1 is not full
  pub not_late : (t : ℕ) → Accepted g past t tick → p + 396 * g.facts.opening.T1 ≤ t → (Over g past t g.facts.opening.N1 reset → ⊥)
      → next (timed t tick) ≡ answer 12 0

-- the limits are bytes, as the buffer and the card's files have them
pub record Bytes (o : Opening) : Type 0 where
  pub N1 : o.N1 ≤ 255
  pub F1 : o.F1 ≤ 255
  pub F2 : o.F2 ≤ 255
  pub F3 : o.F3 ≤ 255
  pub F4 : o.F4 ≤ 255
  pub A1 : o.A1 ≤ 255
  pub S1 : o.S1 ≤ 255
