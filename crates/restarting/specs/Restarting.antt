-- Restart: what a record means at a buffer, and what restart promises of the area and the state
-- that it is lent, whatever they and the image hold. Assumes nothing.
use Rattle.std.specs.Prelude.{◌≡◌, Bool, true, false, cond, not, ◌&&◌, List, ℕ, eqb, length, Option, Some, None}
use Rattle.rules.specs.declared.Answer.{Answer}
use Rattle.rules.specs.Calls.{answer}
use Rattle.rules.specs.Rules.{refused}
use Rattle.buffer.specs.Places.{SIZE}
use Rattle.buffer.specs.Good.{good}
use Rattle.clock.specs.Call.{call_after}
use Rattle.records.specs.Records.{Noted, call_of, parsed, same}
use Rattle.keeping.specs.Keeping.{answer_at, record_at, sized}
use Rattle.journal.specs.Area as J

-- ---- A record's meaning

-- the bytes r are what the gate writes of the call n at the buffer b
unfoldable pub writes : (b r : List ℕ) → Noted → Bool
writes b r n = same (record_at b n) r && not (refused (answer_at b n))

-- the buffer after that call, and none where the gate would not write r there
unfoldable pub step_by : (b r : List ℕ) → Option Noted → Option (List ℕ)
step_by b r None = None
step_by b r (Some n) = cond (writes b r n) (Some (call_after b (call_of n))) None

unfoldable pub step : (b r : List ℕ) → Option (List ℕ)
step b r = step_by b r (parsed r)

-- ---- Restart

abbrev pub answer_of : J.Restarted (List ℕ) → Answer
answer_of J.refused = answer 7 0
answer_of (J.done s a) = answer 0 0

abbrev pub state_of : J.Restarted (List ℕ) → List ℕ → List ℕ
state_of J.refused x = x
state_of (J.done s a) x = s

abbrev pub area_of : J.Restarted (List ℕ) → List ℕ → List ℕ
area_of J.refused y = y
area_of (J.done s a) y = a

-- the area and the state have their lengths
abbrev pub fits : (a s : List ℕ) → Bool
fits a s = sized a && eqb (length s) SIZE

-- refused, or the state after the calls of the area's records, from a good image on, and the area
-- without a torn one
unfoldable pub judged : (i a s : List ℕ) → J.Restarted (List ℕ)
judged i a s = cond (fits a s && good i) (J.restart step i a) J.refused

-- restart from the image i with the area a and the state s gives r, leaves the area y and the state
-- x
pub record RestartSays (i a s : List ℕ) (r : Answer) (y x : List ℕ) : Type 0 where
  pub answered : r ≡ cond (fits a s) (answer_of (judged i a s)) (answer 1 0)
  pub kept : y ≡ area_of (judged i a s) a
  pub left : x ≡ state_of (judged i a s) s

-- ---- Parts of it

-- yes: the optional buffer is x; no: there is none; x is good either way
pub record Answers (o : Option (List ℕ)) (yes : Bool) (x : List ℕ) : Type 0 where
  pub on : yes ≡ true → o ≡ Some x
  pub off : yes ≡ false → o ≡ None
  pub fit : good x ≡ true

-- yes: restart ends with the state x and the area y; no: it is refused, and the area stays
pub record Recovers (o : J.Restarted (List ℕ)) (a : List ℕ) (yes : Bool) (x y : List ℕ) : Type 0 where
  pub on : yes ≡ true → o ≡ J.done x y
  pub off : yes ≡ false → (o ≡ J.refused) × (y ≡ a)
