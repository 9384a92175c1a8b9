-- `why::whole` meets its contract. Assumes nothing.
use mathlib.Core.Path.{sym, ap, ◌∙◌}
use native.Mathlib.Omega.{arith}
use Rattle.why.specs.Report.{whole_of}
use Rattle.why.proofs.Telling.{whole_more}
use Rattle.why.proofs.whole.Goals as goal

pub returns-then-found-word : goal.returns-then-found-word
returns-then-found-word c =
    let n = c.in_ok-found in
    (sym (whole_more c.args.word.now n.found.value n.found.next c.if-found-word.true) ∙ ap whole_of n.ensures.0, omega arith)
