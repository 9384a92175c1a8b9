-- What is meant by what is said: each sentence of request 1 of the customer, and what request 4 makes of its times, of a request
-- that no check refuses. Assumes nothing.
use Rattle.std.specs.Prelude.{◌≡◌, true, ◌⊎◌, ℕ, ◌+◌, ◌-◌, ◌≤◌, ◌<◌, ltb, get_or}
use Rattle.std.specs.Int.Count.{ones, count_trailing_zeros}
use Rattle.rules.specs.Calls.{timed}
use Rattle.rules.specs.declared.Event.TheVariants.{Ask as ask}
use Rattle.rules.specs.Tables.{highest_time, from_newest, rules}
use Rattle.rules.specs.Leaves.{Leaves}
use Rattle.rules.specs.Rules.{ruling}
use Rattle.rules.specs.State.{State}
use Rattle.deciding.specs.Limits.{limit_at}
use Rattle.reasons.specs.declared.said.Why.{Why}
use Rattle.reasons.specs.Why.{alone, against, bit, bit_at}

pub record Means (w : State) (t q : ℕ) (r : Why) : Type 0 where
  -- "a bit is set exactly when that rule, taken alone, would block"
  pub bits_alone : (i : ℕ) → i < 8 → bit_at i r.bits ≡ bit (against w t q (get_or rules i 0))
  pub eight_bits : r.bits < 256
  -- a rule that is taken alone answers with its own number, or permits
  pub own_answer : (i : ℕ) → i < 8 → ((ruling (alone (get_or rules i 0) w) (timed t (ask q))).number ≡ get_or rules i 0) ⊎ ((ruling (alone (get_or rules i 0) w) (timed t (ask q))).number ≡ 0)
  -- "how many there are"
  pub counted : r.count ≡ ones r.bits
  -- "which comes first", "none set names 0"; "the first one named is the gate's own answer"
  pub lowest : r.first ≡ get_or rules (count_trailing_zeros 32 r.bits) 0
  pub gates_own : r.first ≡ (ruling w (timed t (ask q))).number
  -- "for each limit that stands ... the permit time that has to leave the hour": of row i, 0 to 6
  pub leaves : (i : ℕ) → i < 7 → against w t q (limit_at w.facts q i).number ≡ true
      → (get_or r.times (i + 1) 0 ≡ from_newest (limit_at w.facts q i).most (w.lists (limit_at w.facts q i).kind))
      × Leaves (w.lists (limit_at w.facts q i).kind) (limit_at w.facts q i).most t
  -- it is the time of request 4's seconds: with the rule taken alone, and where the gate names that rule
  pub alone_seconds : (i : ℕ) → i < 7 → against w t q (limit_at w.facts q i).number ≡ true
      → (ruling (alone (limit_at w.facts q i).number w) (timed t (ask q))).second ≡ get_or r.times (i + 1) 0 + 3600 - t
  pub gates_seconds : (i : ℕ) → i < 7 → r.first ≡ (limit_at w.facts q i).number → (ruling w (timed t (ask q))).second ≡ get_or r.times (i + 1) 0 + 3600 - t
  -- and taken alone it blocks, asked later with nothing in between, just until those seconds are over
  pub alone_until : (i : ℕ) → i < 7 → against w t q (limit_at w.facts q i).number ≡ true → (u : ℕ) → t ≤ u → u ≤ highest_time
      → against w u q (limit_at w.facts q i).number ≡ ltb u (t + (ruling (alone (limit_at w.facts q i).number w) (timed t (ask q))).second)
