-- Document 01's trace: what a line says. A line stands without its LF. Fields are parted by one
-- space, listed numbers by commas. Assumes nothing.
use Rattle.std.specs.Prelude.{cond, List, [], ◌∷◌, ◌++◌, ℕ, eqb, leb, length, get_or, drop, replicate}
use Rattle.rules.specs.Calls.{Call, timed, typed}
use Rattle.buffer.specs.Segments.{pad}
use Rattle.card.specs.Card.{rtc10}
use Rattle.opening.specs.Open.{Order, order}
use Rattle.calls.specs.Letters.{letter_a, how_many, event_of}
use Rattle.rows.specs.Rows.{space, begins, ended, field, fields, if_number, if_numbers, if_exactly}
use Rattle.at.specs.Lines.{read_line}

-- ---- Bytes and ranges

abbrev pub letter_o : ℕ
letter_o = 79

abbrev pub comma : ℕ
comma = 44

-- the CR that closes an AT line
abbrev pub cr : ℕ
cr = 13

-- the highest decimal, but for an IMSI and a file's byte
abbrev pub highest : ℕ
highest = 4294967295

abbrev pub highest_imsi : ℕ
highest_imsi = 18446744073709551615

abbrev pub highest_byte : ℕ
highest_byte = 255

-- the longest line
abbrev pub longest : ℕ
longest = 256

-- ---- Lines

-- an opening, another call, or an ill-formed line
pub data Said : Type 0 where
  opens : Order → Said
  calls : Call → Said
  wrong : Said

-- Q, G, S, J, D, T: the time and up to four numbers more
unfoldable pub timed_line : ℕ → List ℕ → Said
timed_line x l = if_exactly wrong (how_many x) (fields space highest 5 l) (λ n rest. cond (ended rest) (calls (timed (get_or n 0 0) (event_of x n))) wrong)

-- A: the rest of the line, which CR closes
unfoldable pub typed_line : List ℕ → Said
typed_line l = cond (begins space l) (calls (typed (read_line (drop 1 l ++ (cr ∷ []))))) wrong

-- what ends an opening: the parameter file, the leak rate file, A1 and S1
pub data Ending : Type 0 where
  ending : (parameters rates : List ℕ) (A1 S1 : ℕ) → Ending
  no_ending : Ending

-- six parameters, three leak rates and two limits, then the end; each file is filled up with 0
unfoldable pub ending_of : List ℕ → Ending
ending_of l =
    if_exactly no_ending 6 (fields comma highest_byte 6 l) (λ p l1.
    if_exactly no_ending 3 (fields comma highest_byte 3 l1) (λ q l2.
    if_exactly no_ending 2 (fields space highest 2 l2) (λ n l3.
    cond (ended l3) (ending (pad 32 p) (pad 6 q) (get_or n 0 0) (get_or n 1 0)) no_ending)))

-- the order to open: NFM and RPM 1, counters 0. The line has the card's files; the module's own,
-- which do not rule then, are RTC10's parameters and leak rates of 0
abbrev pub opens_by : (time imsi : ℕ) (intervals : List ℕ) → Ending → Said
opens_by t i xs no_ending = wrong
opens_by t i xs (ending p q a s) = opens (order t i xs 1 1 a s p q (replicate 32 0) rtc10 (replicate 6 0))

-- O: time, IMSI, intervals, parameters, leak rates, A1, S1. A line of 256 bytes has room for fewer
-- than 128 intervals; more than ten are for the opening to refuse
unfoldable pub open_line : List ℕ → Said
open_line l =
    if_number wrong (field highest l) (λ t l1.
    if_number wrong (field highest_imsi l1) (λ i l2.
    if_numbers wrong (fields comma highest 128 l2) (λ xs l3.
    opens_by t i xs (ending_of l3))))

unfoldable pub by_letter : ℕ → List ℕ → Said
by_letter x l = cond (eqb x letter_o) (open_line l) (cond (eqb x letter_a) (typed_line l) (timed_line x l))

-- a line by its first byte
unfoldable pub read_trace : List ℕ → Said
read_trace [] = wrong
read_trace (x ∷ l) = by_letter x l

-- what a line says; one that is longer is ill-formed
unfoldable pub said_by : List ℕ → Said
said_by l = cond (leb (length l) longest) (read_trace l) wrong
