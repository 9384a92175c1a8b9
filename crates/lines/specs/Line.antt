-- What answering a trace line promises: the bytes that it prints and all 1,331 places, whatever the
-- line and the buffer hold. Assumes nothing.
use Rattle.std.specs.Prelude.{◌≡◌, cond, ◌&&◌, List, [], ◌∷◌, ℕ, ◌≤◌, leb, length, drop, Option, Some, None}
use Rattle.rules.specs.declared.Answer.{Answer}
use Rattle.rules.specs.Calls.{answer}
use Rattle.buffer.specs.Segments.{paste}
use Rattle.opening.specs.Open.{open_answer, open_after}
use Rattle.clock.specs.Call.{call_answer, call_after}
use Rattle.text.specs.Number.{num}
use Rattle.text.specs.Printed.{print_two}
use Rattle.lines.specs.Trace.{Said, opens, calls, wrong, said_by, highest}
use Rattle.rows.specs.Rows.{begins, ended, field, if_number}

-- ---- The answer

-- the two numbers of the call that the line says; an ill-formed line has none
abbrev pub replied : List ℕ → Said → Option Answer
replied b (opens o) = Some (open_answer b o)
replied b (calls c) = Some (call_answer b c)
replied b wrong = None

-- the buffer after it
abbrev pub left_by : List ℕ → Said → List ℕ
left_by b (opens o) = open_after b o
left_by b (calls c) = call_after b c
left_by b wrong = b

-- what a line says, done to the buffer b, gives r and leaves x
pub record Done (b : List ℕ) (w : Said) (r : Option Answer) (x : List ℕ) : Type 0 where
  pub gave : r ≡ replied b w
  pub left : x ≡ left_by b w

-- ---- Its print

-- two numbers with a space between, and LF
abbrev pub printed_two : Answer → List ℕ
printed_two a = print_two a.number a.second

-- ERR and LF
abbrev pub printed_wrong : List ℕ
printed_wrong = 69 ∷ 82 ∷ 82 ∷ 10 ∷ []

abbrev pub printed : Option Answer → List ℕ
printed (Some a) = printed_two a
printed None = printed_wrong

-- reading it back: two numbers, LF and nothing more, or none
abbrev pub last_of : ℕ → ℕ → List ℕ → Option Answer
last_of n m l = cond (begins 10 l && ended (drop 1 l)) (Some (answer n m)) None

abbrev pub second_of : ℕ → List ℕ → Option Answer
second_of n l = if_number None (field highest l) (last_of n)

unfoldable pub read_answer : List ℕ → Option Answer
read_answer l = if_number None (num highest l) second_of

-- both numbers have 32 bits
abbrev pub Fits : Answer → Type 0
Fits a = (a.number ≤ highest) × (a.second ≤ highest)

-- the line's answer as it is printed
unfoldable pub print_of : List ℕ → List ℕ → List ℕ
print_of b line = printed (replied b (said_by line))

-- no answer is longer
abbrev pub room_for : ℕ
room_for = 22

-- answering the line on the buffer b, in a room that is lent, gives r and leaves x and y: r bytes
-- are written from the front of the room, and those beyond are left. In less room than 22 bytes
-- nothing is done.
pub record LineSays (b line room : List ℕ) (r : ℕ) (x y : List ℕ) : Type 0 where
  pub counted : r ≡ cond (leb room_for (length room)) (length (print_of b line)) 0
  pub left : x ≡ cond (leb room_for (length room)) (left_by b (said_by line)) b
  pub written : y ≡ cond (leb room_for (length room)) (paste room 0 (print_of b line)) room
