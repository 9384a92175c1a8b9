-- AT lines. "Upper case, at most 96 bytes, closed by one CR (13) and nothing after it: `AT+NFM=a`, `AT+NFM=a,s`, `AT+NFM=?`, `AT+NFMCI=`
-- and 1 to 10 intervals with commas. Flags are 0 or 1; decimals have no leading zero"; an interval is 1 to 65,535 and none is below the
-- one before. Any other line is bad. That no line read is longer than 96 bytes is a law, `accepted` in proofs/RoundTrip. Assumes nothing.
use Rattle.std.specs.Prelude.{ℕ, suc, zero, ◌+◌, List, [], ◌∷◌, ◌++◌, Bool, true, false, cond, drop, length, leb, ltb, eqb, Option, Some, None}
use Rattle.text.specs.Number.{Part, got, none, num}
use Rattle.rules.specs.Calls.{Line, query, nfm, nfm_start, intervals, bad}
use Rattle.at.specs.declared.Name.{Name}
use Rattle.at.specs.declared.Name.TheVariants as N
use Rattle.at.specs.declared.Reader.{Reader}

-- l begins with the word w
unfoldable pub starts : List ℕ → List ℕ → Bool
starts [] l = true
starts (x ∷ w) [] = false
starts (x ∷ w) (y ∷ l) = cond (eqb y x) (starts w l) false

-- l is the word w and nothing after it
unfoldable pub ends : List ℕ → List ℕ → Bool
ends w l = cond (starts w l) (leb (length l) (length w)) false

-- ---- The words

abbrev pub at_nfm : List ℕ
at_nfm = 65 ∷ 84 ∷ 43 ∷ 78 ∷ 70 ∷ 77 ∷ 61 ∷ []

abbrev pub at_nfmci : List ℕ
at_nfmci = 65 ∷ 84 ∷ 43 ∷ 78 ∷ 70 ∷ 77 ∷ 67 ∷ 73 ∷ 61 ∷ []

abbrev pub cr : List ℕ
cr = 13 ∷ []

abbrev pub comma : List ℕ
comma = 44 ∷ []

abbrev pub ask : List ℕ
ask = 63 ∷ 13 ∷ []

-- ---- The lines

-- the flag at the front, or 2
unfoldable pub flag_of : List ℕ → ℕ
flag_of [] = 2
flag_of (x ∷ l) = cond (eqb x 48) 0 (cond (eqb x 49) 1 2)

-- what follows AT+NFM=
unfoldable pub flags : List ℕ → Line
flags l =
    cond (ends ask l) query
    (cond (ltb (flag_of l) 2)
    (cond (ends cr (drop 1 l)) (nfm (flag_of l))
    (cond (starts comma (drop 1 l))
    (cond (ltb (flag_of (drop 2 l)) 2) (cond (ends cr (drop 3 l)) (nfm_start (flag_of l) (flag_of (drop 2 l))) bad) bad)
    bad))
    bad)

-- after an interval: CR and nothing, or a comma and more
abbrev pub after_int : List ℕ → List ℕ → (List ℕ → List ℕ) → List ℕ
after_int all l go = cond (ends cr l) all (cond (starts comma l) (go (drop 1 l)) [])

-- an interval, and what follows it
abbrev pub one_int : Part → ℕ → List ℕ → (ℕ → List ℕ → List ℕ) → List ℕ
one_int none last done go = []
one_int (got v l) last done go = cond (leb last v) (after_int (done ++ (v ∷ [])) l (go v)) []

-- at most k more intervals, none below last, after those done; [] where the list is refused
unfoldable pub ints : ℕ → List ℕ → ℕ → List ℕ → List ℕ
ints zero l last done = []
ints (suc k) l last done = one_int (num 65535 l) last done (λ v l'. ints k l' v (done ++ (v ∷ [])))

-- what the intervals say: a refused list is a bad line
abbrev pub ints_line : List ℕ → Line
ints_line [] = bad
ints_line (x ∷ xs) = intervals (x ∷ xs)

-- what a line says
unfoldable pub read_line : List ℕ → Line
read_line l = cond (starts at_nfm l) (flags (drop 7 l)) (cond (starts at_nfmci l) (ints_line (ints 10 (drop 9 l) 1 [])) bad)

-- ---- A line in two steps, as a reader takes it: its name, and the arguments behind it

-- the name's bytes
abbrev pub word : Name → List ℕ
word N.Flags = at_nfm
word N.Intervals = at_nfmci

-- the name that a line begins with
unfoldable pub name_of : List ℕ → Option Name
name_of l = cond (starts at_nfm l) (Some N.Flags) (cond (starts at_nfmci l) (Some N.Intervals) None)

-- what the arguments say, of the command with that name
abbrev pub arguments_of : Name → List ℕ → Line
arguments_of N.Flags l = flags l
arguments_of N.Intervals l = ints_line (ints 10 l 1 [])

-- what a reader has before it: its line from its place on
abbrev pub ahead : Reader → List ℕ
ahead r = drop r.at r.line.now

-- the reader moved on behind a name: the line is the same
abbrev pub behind : Name → Reader → Reader
behind n r = record { line = r.line; at = r.at + length (word n) }
