-- Calls with a journal: what is appended, and what each call promises of the state, the area and
-- the room that it is lent, whatever they hold. Assumes nothing.
use Rattle.std.specs.Prelude.{◌≡◌, Bool, cond, not, ◌&&◌, List, ℕ, eqb, ltb, leb, length, replicate}
use Rattle.rules.specs.declared.Answer.{Answer}
use Rattle.rules.specs.Calls.{answer, typed}
use Rattle.rules.specs.Rules.{refused}
use Rattle.buffer.specs.Segments.{paste}
use Rattle.buffer.specs.Layout.{facts_of}
use Rattle.clock.specs.Call.{call_answer, call_after}
use Rattle.at.specs.Lines.{read_line}
use Rattle.command.specs.Command.{reply}
use Rattle.journal.specs.Area.{AREA, SLOTS, slots, free, written}
use Rattle.records.specs.Records.{Noted, types, call_of, encoded}

-- ---- What is appended

-- the plain call's answer, at the buffer b
abbrev pub answer_at : List ℕ → Noted → Answer
answer_at b n = call_answer b (call_of n)

-- the record that the gate writes there: the call with that answer
abbrev pub record_at : List ℕ → Noted → List ℕ
record_at b n = encoded n (answer_at b n)

-- the area has its length
abbrev pub sized : List ℕ → Bool
sized a = eqb (length a) AREA

-- a slot begins with 255
abbrev pub roomy : List ℕ → Bool
roomy a = ltb (free (slots a)) SLOTS

-- the call is appended: the area has its length, the plain call is not refused, and there is room
unfoldable pub appends : (b a : List ℕ) → Noted → Bool
appends b a n = sized a && (not (refused (answer_at b n)) && roomy a)

-- the area with the record in the first slot that begins with 255
abbrev pub appended : (b a : List ℕ) → Noted → List ℕ
appended b a n = written a (free (slots a)) (record_at b n) 128

-- ---- A request, an outcome, the clock call

-- 1 for the area's length; then the plain call's refusals; then 6 where no slot begins with 255;
-- then the plain call's answer
unfoldable pub journal_answer : (b a : List ℕ) → Noted → Answer
journal_answer b a n = cond (sized a) (cond (not (refused (answer_at b n)) && not (roomy a)) (answer 6 0) (answer_at b n)) (answer 1 0)

-- the call n on the buffer b with the area a gives r, leaves the buffer x and the area y: as the
-- plain call leaves the buffer, with its record in the area, or nothing has changed
pub record Journals (b a : List ℕ) (n : Noted) (r : Answer) (x y : List ℕ) : Type 0 where
  pub answered : r ≡ journal_answer b a n
  pub left : x ≡ cond (appends b a n) (call_after b (call_of n)) b
  pub kept : y ≡ cond (appends b a n) (appended b a n) a

-- ---- An AT line

-- at least 16 bytes are there for the answer
abbrev pub heard : List ℕ → Bool
heard room = leb 16 (length room)

-- the line, with the buffer b, the area a and the room, gives r, leaves the buffer x, the area y
-- and the room z
pub record JournalsLine (b a line room : List ℕ) (r : Answer) (x y z : List ℕ) : Type 0 where
  pub answered : r ≡ cond (heard room) (journal_answer b a (types line)) (answer 1 0)
  pub left : x ≡ cond (heard room && appends b a (types line)) (call_after b (typed (read_line line))) b
  pub kept : y ≡ cond (heard room && appends b a (types line)) (appended b a (types line)) a
  pub told : z ≡ cond (heard room && appends b a (types line)) (paste room 0 (reply (facts_of b) (read_line line))) room

-- ---- The area by itself

-- erasing the area a gives r and leaves y
pub record EraseSays (a : List ℕ) (r : Answer) (y : List ℕ) : Type 0 where
  pub answered : r ≡ answer (cond (sized a) 0 1) 0
  pub kept : y ≡ cond (sized a) (replicate AREA 255) a

-- the slot that the next append writes
unfoldable pub next_of : List ℕ → Answer
next_of a = cond (sized a) (cond (roomy a) (answer 0 (free (slots a))) (answer 6 0)) (answer 1 0)
