-- A record as document 01's trace line of its call, with the two numbers of the answer as last
-- fields. Assumes nothing.
use Rattle.std.specs.Prelude.{Bool, true, false, cond, ◌&&◌, List, [], ◌∷◌, ◌++◌, ℕ, ◌+◌, ◌-◌, ◌*◌, length, get_or, take, drop}
use Rattle.std.specs.Prelude.{Option, Some, None}
use Rattle.rules.specs.declared.Answer.{Answer}
use Rattle.rules.specs.Calls.{Line, query, nfm, nfm_start, intervals, bad, answer}
use Rattle.text.specs.Printed.{print_num}
use Rattle.image.specs.Image.{numbers_of}
use Rattle.at.specs.Lines.{read_line}
use Rattle.calls.specs.Letters.{letter_a}
use Rattle.records.specs.Records.{Noted, times, types, letter_of, arguments_of, encoded, parsed, same}

-- ---- A line

-- "Fields are parted by one space": each number with the space before it
unfoldable pub fields_of : List ℕ → List ℕ
fields_of [] = []
fields_of (n ∷ l) = 32 ∷ (print_num n ++ fields_of l)

-- the trace line of a call, without its LF: the letter and the numbers; of an AT line its bytes but
-- the last, "an AT line without CR"
unfoldable pub line_of : Noted → List ℕ
line_of (times t e) = letter_of e ∷ fields_of (t ∷ arguments_of e)
line_of (types l) = letter_a ∷ 32 ∷ take (length l - 1) l

-- the two numbers of an answer, and LF
abbrev pub end_of : Answer → List ℕ
end_of a = fields_of (a.number ∷ a.second ∷ []) ++ (10 ∷ [])

-- the line with its answer
unfoldable pub listed : Noted → Answer → List ℕ
listed n a = line_of n ++ end_of a

-- ---- Out of a record

-- the two numbers from a place on
unfoldable pub answer_from : ℕ → List ℕ → Answer
answer_from i r = answer (get_or (numbers_of (take 8 (drop i r))) 0 0) (get_or (numbers_of (take 8 (drop i r))) 1 0)

-- the answer that stands behind a call's letter and bytes
abbrev pub answer_in : Noted → List ℕ → Answer
answer_in (times t e) r = answer_from (1 + 4 * length (t ∷ arguments_of e)) r
answer_in (types l) r = answer_from (5 + length l) r

-- an AT line that is not refused
abbrev pub taken : Line → Bool
taken query = true
taken (nfm a) = true
taken (nfm_start a s) = true
taken (intervals l) = true
taken bad = false

-- what the gate may have accepted: of a timed call that is for the state to say, not for its record
abbrev pub acceptable : Noted → Bool
acceptable (times t e) = true
acceptable (types l) = taken (read_line l)

-- the line of the call, where the bytes are its record with the answer that stands there
abbrev pub line_if : List ℕ → Noted → Option (List ℕ)
line_if r n = cond (same (encoded n (answer_in n r)) r && acceptable n) (Some (listed n (answer_in n r))) None

abbrev pub if_parsed : List ℕ → Option Noted → Option (List ℕ)
if_parsed r None = None
if_parsed r (Some n) = line_if r n

-- the line of a record; none of what is no record of a call
unfoldable pub line_in : List ℕ → Option (List ℕ)
line_in r = if_parsed r (parsed r)

-- ---- As the code says it

-- so many bytes of the room, or nothing
abbrev pub said : Option ℕ → List ℕ → Option (List ℕ)
said (Some n) out = Some (take n out)
said None out = None

abbrev pub size_of : Option ℕ → ℕ
size_of (Some n) = n
size_of None = 0
