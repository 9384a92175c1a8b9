-- What the bytes of the input print and do to the buffer, one byte after the other. Assumes
-- nothing.
use Rattle.std.specs.Prelude.{Bool, false, cond, not, ◌&&◌, List, [], ◌∷◌, ◌++◌, ℕ, eqb}
use Rattle.lines.specs.Trace.{said_by}
use Rattle.rows.specs.Rows.{ended}
use Rattle.lines.specs.Line.{left_by, print_of, printed_wrong}

-- a line that has ended; `skip` says that it is too long, and was passed over
abbrev pub line_prints : Bool → List ℕ → List ℕ → List ℕ
line_prints skip line b = cond skip printed_wrong (print_of b line)

abbrev pub line_leaves : Bool → List ℕ → List ℕ → List ℕ
line_leaves skip line b = cond skip b (left_by b (said_by line))

-- the end of the input: a line that has begun is answered as if LF followed
abbrev pub last_prints : Bool → (line buffer : List ℕ) → List ℕ
last_prints skip line b = cond (ended line && not skip) [] (line_prints skip line b)

abbrev pub last_leaves : Bool → (line buffer : List ℕ) → List ℕ
last_leaves skip line b = cond (ended line && not skip) b (line_leaves skip line b)

-- bytes to come, to the end of the input, after those of the line that has begun: LF ends the line
unfoldable pub prints : Bool → (line bytes buffer : List ℕ) → List ℕ
prints skip line [] b = last_prints skip line b
prints skip line (x ∷ l) b =
    let rest = prints false [] l (line_leaves skip line b) in
    let more = prints skip (line ++ (x ∷ [])) l b in
    cond (eqb x 10) (line_prints skip line b ++ rest) more

unfoldable pub leaves : Bool → (line bytes buffer : List ℕ) → List ℕ
leaves skip line [] b = last_leaves skip line b
leaves skip line (x ∷ l) b =
    let rest = leaves false [] l (line_leaves skip line b) in
    let more = leaves skip (line ++ (x ∷ [])) l b in
    cond (eqb x 10) rest more
