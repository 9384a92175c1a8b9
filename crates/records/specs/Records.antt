-- A call and its answer as a record of 128 bytes: document 01's letter, the call's numbers, four
-- bytes each, the lowest first, or of an AT line its length and its bytes; then the two numbers of
-- the answer, and zeros to the end. Assumes nothing.
use Rattle.std.specs.Prelude.{Bool, true, false, cond, ◌&&◌, List, [], ◌∷◌, ◌++◌, ℕ, ◌-◌, ◌*◌, ◌≤◌, eqb, leb, length, get_or, take, drop, replicate, Option, Some, None}
use Rattle.rules.specs.declared.Answer.{Answer}
use Rattle.rules.specs.Calls.{Call, timed, typed}
use Rattle.rules.specs.declared.Event.{Event}
use Rattle.rules.specs.declared.Event.TheVariants.{Ask as ask, Outcome as outcome, Dropped as dropped, Tick as tick}
use Rattle.rules.specs.declared.Outcome.TheVariants.{Granted as granted, Silent as silent, Rejected as rejected}
use Rattle.image.specs.Image.{image_of, numbers_of, Words}
use Rattle.at.specs.Lines.{read_line}
use Rattle.calls.specs.Letters.{letter_q, letter_g, letter_s, letter_j, letter_d, letter_t, letter_a, how_many, event_of}

-- ---- Calls as they are kept

-- what is kept of a call: its time and what happens, or the bytes of an AT line
pub data Noted : Type 0 where
  times : (t : ℕ) → Event → Noted
  types : (line : List ℕ) → Noted

-- the gate's call
abbrev pub call_of : Noted → Call
call_of (times t e) = timed t e
call_of (types l) = typed (read_line l)

-- its letter
abbrev pub letter_of : Event → ℕ
letter_of (ask q) = letter_q
letter_of (outcome s granted) = letter_g
letter_of (outcome s silent) = letter_s
letter_of (outcome s (rejected cause second column)) = letter_j
letter_of dropped = letter_d
letter_of tick = letter_t

-- the numbers after the time
abbrev pub arguments_of : Event → List ℕ
arguments_of (ask q) = q ∷ []
arguments_of (outcome s granted) = s ∷ []
arguments_of (outcome s silent) = s ∷ []
arguments_of (outcome s (rejected cause second column)) = s ∷ cause ∷ second ∷ column ∷ []
arguments_of dropped = []
arguments_of tick = []

-- ---- A record

-- a letter, a call's bytes, the answer's two numbers, and zeros, 128 in all
unfoldable pub packed : (letter : ℕ) (body : List ℕ) → Answer → List ℕ
packed x body a = x ∷ (body ++ (image_of (a.number ∷ a.second ∷ []) ++ replicate (119 - length body) 0))

unfoldable pub encoded : Noted → Answer → List ℕ
encoded (times t e) a = packed (letter_of e) (image_of (t ∷ arguments_of e)) a
encoded (types l) a = packed letter_a (image_of (length l ∷ []) ++ l) a

-- document 01's longest AT line
abbrev pub longest_line : ℕ
longest_line = 96

-- what can stand in a record: numbers of 32 bits, and AT lines that are no longer
abbrev pub Fits : Noted → Type 0
Fits (times t e) = Words (t ∷ arguments_of e)
Fits (types l) = length l ≤ longest_line

-- ---- Read back: bytes are taken for the one call that they can be the record of. Whether they are
-- that, its own record tells

-- the first n numbers behind the letter
unfoldable pub numbers_in : ℕ → List ℕ → List ℕ
numbers_in n r = numbers_of (take (4 * n) (drop 1 r))

-- the timed call of a letter and its numbers, where the letter begins one
unfoldable pub timed_by : ℕ → List ℕ → Option Noted
timed_by x v = cond (eqb (how_many x) 0) None (Some (times (get_or v 0 0) (event_of x v)))

-- the AT line of so many bytes, where it is not too long
unfoldable pub line_by : ℕ → List ℕ → Option Noted
line_by n bytes = cond (leb n longest_line) (Some (types (take n bytes))) None

unfoldable pub parsed : List ℕ → Option Noted
parsed r = cond (eqb (get_or r 0 0) letter_a) (line_by (get_or (numbers_in 1 r) 0 0) (drop 5 r)) (timed_by (get_or r 0 0) (numbers_in (how_many (get_or r 0 0)) r))

-- the same bytes
unfoldable pub same : List ℕ → List ℕ → Bool
same [] [] = true
same [] (y ∷ b) = false
same (x ∷ a) [] = false
same (x ∷ a) (y ∷ b) = eqb x y && same a b
