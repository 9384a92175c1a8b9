-- What the program prints of a request, byte by byte, from the bytes of the file that holds the
-- state. Assumes nothing.
use Rattle.std.specs.Prelude.{Bool, cond, List, [], ◌∷◌, ◌++◌, ℕ, ◌/◌, ◌%◌, eqb, length, get_or, drop}
use Rattle.text.specs.Number.{Part, got, none}
use Rattle.text.specs.Printed.{print_num, print_two}
use Rattle.image.specs.Image.{numbers_of}
use Rattle.reasons.specs.declared.said.Why.{Why}
use Rattle.rules.specs.Tables.{rules}
use Rattle.buffer.specs.Places.{BYTES}
use Rattle.reasons.specs.Why.{refused_by, why_of}

-- a line for a rule that stands: the back-off's number alone, a limit's with the time that has to
-- leave
abbrev pub line_if : Bool → ℕ → ℕ → List ℕ
line_if stands n t = cond stands (cond (eqb n 10) (print_num n ++ (10 ∷ [])) (print_two n t)) []

-- so for each of the rules ns, with their times ts, whose bit is set in m, the lowest bit first
abbrev pub lines_for : ℕ → List ℕ → List ℕ → List ℕ
lines_for m [] ts = []
lines_for m (n ∷ ns) ts = line_if (eqb (m % 2) 1) n (get_or ts 0 0) ++ lines_for (m / 2) ns (drop 1 ts)

-- the first and how many there are, then their lines; of a refusal its number and 0
unfoldable pub report : Why → List ℕ
report r = cond (eqb r.refusal 0) (print_two r.first r.count ++ lines_for r.bits rules r.times) (print_two r.refusal 0)

-- 5,324 bytes are 1,331 numbers; a file of another length is refusal 1
unfoldable pub report_on : List ℕ → ℕ → ℕ → List ℕ
report_on bytes t q = cond (eqb (length bytes) BYTES) (report (why_of (numbers_of bytes) t q)) (report (refused_by 1))

-- ---- The words

abbrev pub highest : ℕ
highest = 4294967295

-- a number that is the whole word
abbrev pub whole_of : Part → Part
whole_of (got n []) = got n []
whole_of (got n (x ∷ l)) = none
whole_of none = none
