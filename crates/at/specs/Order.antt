-- The code's form of what an AT line says. Assumes nothing.
use Rattle.std.specs.Prelude.{ℕ, ◌-◌, List, [], ◌∷◌, ◌++◌, length, take, replicate, Option, Some, None}
use Rattle.rules.specs.Calls.{Line, query, nfm, nfm_start, intervals, bad}
use Rattle.at.specs.declared.Order.{Order}
use Rattle.at.specs.declared.Order.TheVariants as O
use Rattle.at.specs.declared.Listed.{Listed}

-- ten places, unused 0
abbrev pub ten : List ℕ → List ℕ
ten xs = xs ++ replicate (10 - length xs) 0

-- intervals, as the code holds them
abbrev pub listed : List ℕ → Listed
listed xs = record { count = length xs; list = ten xs }

-- a list without intervals is one that is refused
abbrev pub some_listed : List ℕ → Option Listed
some_listed [] = None
some_listed (x ∷ xs) = Some (listed (x ∷ xs))

-- the intervals of a line
abbrev pub list_of : Line → List ℕ
list_of query = []
list_of (nfm a) = []
list_of (nfm_start a s) = []
list_of (intervals xs) = xs
list_of bad = []

-- the code's form
abbrev pub order_of : Line → Option Order
order_of query = Some O.Query
order_of (nfm a) = Some (O.Nfm a)
order_of (nfm_start a s) = Some (O.NfmStart a s)
order_of (intervals xs) = Some (O.Intervals (listed xs))
order_of bad = None

-- the line that the code's form stands for
abbrev pub line_of : Option Order → Line
line_of (Some O.Query) = query
line_of (Some (O.Nfm a)) = nfm a
line_of (Some (O.NfmStart a s)) = nfm_start a s
line_of (Some (O.Intervals l)) = intervals (take l.count l.list)
line_of None = bad
