-- How each order is printed, and which orders are valid. Assumes nothing.
use Rattle.std.specs.Prelude.{ℕ, ◌+◌, ◌<◌, ◌≡◌, true, List, [], ◌∷◌, ◌++◌}
use Rattle.text.specs.Printed.{print_num}
use Rattle.rules.specs.Calls.{Line, query, nfm, nfm_start, intervals, bad}
use Rattle.rules.specs.Tables.{scheduled}
use Rattle.at.specs.Lines.{at_nfm, at_nfmci, ask, cr}

-- each number after a comma
abbrev pub print_more : List ℕ → List ℕ
print_more [] = []
print_more (x ∷ xs) = 44 ∷ (print_num x ++ print_more xs)

-- with commas between
abbrev pub print_ints : List ℕ → List ℕ
print_ints [] = []
print_ints (x ∷ xs) = print_num x ++ print_more xs

-- a line that says nothing has no print
abbrev pub print_line : Line → List ℕ
print_line query = at_nfm ++ ask
print_line (nfm a) = at_nfm ++ ((48 + a) ∷ cr)
print_line (nfm_start a s) = at_nfm ++ ((48 + a) ∷ 44 ∷ (48 + s) ∷ cr)
print_line (intervals xs) = at_nfmci ++ (print_ints xs ++ cr)
print_line bad = []

-- flags are 0 or 1, and intervals as the rules have them
abbrev pub Valid : Line → Type 0
Valid query = Unit {0}
Valid (nfm a) = a < 2
Valid (nfm_start a s) = (a < 2) × (s < 2)
Valid (intervals xs) = scheduled xs ≡ true
Valid bad = ⊥
