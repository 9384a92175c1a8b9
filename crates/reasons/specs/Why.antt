-- Why the gate says no: which rules stand against a request, each taken alone, and which permit has to leave the hour. Assumes nothing.
use Rattle.std.specs.Prelude.{◌≡◌, Bool, cond, List, [], ◌∷◌, map, ℕ, zero, suc, ◌+◌, ◌*◌, ◌/◌, ◌%◌, eqb, length}
use Rattle.rules.specs.declared.Answer.{Answer}
use Rattle.rules.specs.Calls.{timed, answer}
use Rattle.rules.specs.declared.Event.TheVariants.{Ask as ask}
use Rattle.rules.specs.Tables.{from_newest, among, rules}
use Rattle.rules.specs.Rules.{Limit, limits, refusal, ruling}
use Rattle.rules.specs.State.{State, with_opening, with_services, with_backoffs, idle}
use Rattle.buffer.specs.Layout.{view}
use Rattle.buffer.specs.Good.{good}
use Rattle.reasons.specs.declared.said.Why.{Why}

-- ---- One rule, taken alone

-- what is known, with every rule but n taken away as document 01 has one away: a limit of zero is none, and an end of 0 is none
unfoldable pub alone : ℕ → State → State
alone n w =
    let f = w.facts in
    let o = f.opening in
    let v = f.services in
    record {
      facts =
          with_services
          (with_opening f
          (record {
            opened = o.opened;
            imsi = o.imsi;
            rpm = o.rpm;
            N1 = cond (eqb n 11) o.N1 0;
            T1 = o.T1;
            F1 = cond (eqb n 13) o.F1 0;
            F2 = cond (eqb n 14) o.F2 0;
            F3 = cond (eqb n 15) o.F3 0;
            F4 = cond (eqb n 16) o.F4 0;
            A1 = cond (eqb n 17) o.A1 0;
            S1 = cond (eqb n 18) o.S1 0;
            LR1 = o.LR1;
            LR2 = o.LR2;
            LR3 = o.LR3;
          }))
          (with_backoffs v v.failures (cond (eqb n 10) v.ends idle));
      lists = w.lists;
    }

-- the number of a rule is a block
abbrev pub blocked : Answer → Bool
blocked a = among a.number rules

-- rule n, taken alone, would block request q at t
unfoldable pub against : State → ℕ → ℕ → ℕ → Bool
against w t q n = blocked (ruling (alone n w) (timed t (ask q)))

-- ---- All of them

-- in document 01's order
abbrev pub stand : State → ℕ → ℕ → List Bool
stand w t q = map (against w t q) rules

-- one number with a bit for each, the first the lowest
abbrev pub bit : Bool → ℕ
bit b = cond b 1 0

abbrev pub weigh : List Bool → ℕ
weigh [] = 0
weigh (b ∷ bs) = bit b + 2 * weigh bs

-- bit i of a number, the lowest first
abbrev pub bit_at : ℕ → ℕ → ℕ
bit_at zero m = m % 2
bit_at (suc i) m = bit_at i (m / 2)

-- how many there are
abbrev pub how_many : List Bool → ℕ
how_many [] = 0
how_many (b ∷ bs) = cond b (suc (how_many bs)) (how_many bs)

-- the permit time that has to leave the hour before a limit that stands permits again: L places from the newest of its list
abbrev pub leaving : State → Limit → ℕ
leaving w r = from_newest r.most (w.lists r.kind)

-- a time for each bit, 0 for the back-off and for a limit that does not stand
abbrev pub times : State → ℕ → ℕ → List ℕ
times w t q = 0 ∷ map (λ r. cond (against w t q r.number) (leaving w r) 0) (limits w.facts q)

abbrev pub no_times : List ℕ
no_times = 0 ∷ 0 ∷ 0 ∷ 0 ∷ 0 ∷ 0 ∷ 0 ∷ 0 ∷ []

-- ---- What is said

-- a request that is refused gets its number, and no rules
abbrev pub refused_by : ℕ → Why
refused_by n = record { refusal = n; bits = 0; count = 0; first = 0; times = no_times }

-- any other gets the rules that stand against it; the first is the gate's own answer, and 0 where none stands
unfoldable pub reasons : State → ℕ → ℕ → Why
reasons w t q =
    let n = refusal w.facts (timed t (ask q)) in
    cond (eqb n 0)
    (record { refusal = 0; bits = weigh (stand w t q); count = how_many (stand w t q); first = (ruling w (timed t (ask q))).number; times = times w t q })
    (refused_by n)

-- of a request at t on the buffer b: a bad buffer is refusal 1
unfoldable pub why_of : List ℕ → ℕ → ℕ → Why
why_of b t q = cond (good b) (reasons (view b) t q) (refused_by 1)

-- ---- The same in two numbers and a lent room of exactly eight for the times: the first rule and the bits, or the refusal; a refused call leaves the room

unfoldable pub room_refusal : List ℕ → ℕ → ℕ → List ℕ → ℕ
room_refusal b t q room = cond (eqb (length room) 8) (why_of b t q).refusal 1

pub record RoomSays (b : List ℕ) (t q : ℕ) (room : List ℕ) (r : Answer) (x : List ℕ) : Type 0 where
  pub answered : r ≡ cond (eqb (room_refusal b t q room) 0) (answer (why_of b t q).first (why_of b t q).bits) (answer (room_refusal b t q room) 0)
  pub left : x ≡ cond (eqb (room_refusal b t q room) 0) (why_of b t q).times room
