-- `lines::types` meets its contract. Assumes nothing.
use mathlib.Core.List.{[], ◌∷◌, ◌++◌}
use lib.ListN.{drop}
use Rattle.rules.specs.Calls.{typed}
use Rattle.at.specs.Lines.{read_line}
use Rattle.clock.proofs.Saying.{says_bad}
use Rattle.lines.proofs.types.Goals as goal

pub returns-in-None : goal.returns-in-None
returns-in-None c =
    let a = c.args in
    rw c.into.ensures (says_bad a.s.now (typed (read_line (drop 2 a.line.now ++ (13 ∷ [])))) c.in-None.ensures.cases)
