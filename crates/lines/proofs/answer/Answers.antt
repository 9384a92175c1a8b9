-- `lines::answer` meets its contract. Assumes nothing.
use Rattle.lines.proofs.Doing.{line_room}
use native.Mathlib.Omega.{arith}
use Rattle.lines.proofs.answer.Goals as goal

pub returns-then-out-lt22 : goal.returns-then-out-lt22
returns-then-out-lt22 c = record { line_says = line_room c.if-out-lt22.true; upper_bound = omega arith }
