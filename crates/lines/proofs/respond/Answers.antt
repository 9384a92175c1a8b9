-- `lines::respond` meets its contract. Assumes nothing.
use mathlib.Core.Path.{subst}
use Rattle.std.specs.Prelude.{Option}
use Rattle.rules.specs.declared.Answer.{Answer}
use Rattle.lines.specs.Line.{Done}
use Rattle.lines.specs.Trace.{said_by}
use Rattle.lines.proofs.Doing.{line_done}
use Rattle.lines.proofs.respond.Goals as goal

pub returns-in-Some-clause-line_says : goal.returns-in-Some-clause-line_says
returns-in-Some-clause-line_says c =
    let a = c.args in
    line_done c.requires.in_bounds (subst (λ (r : Option Answer). Done a.s.now (said_by a.line.now) r c.obey.new.s) c.in-Some.is c.obey.ensures) c.two.ensures.out_after.0 c.two.ensures.out_after.1

pub returns-in-None-clause-line_says : goal.returns-in-None-clause-line_says
returns-in-None-clause-line_says c =
    let a = c.args in
    line_done c.requires.in_bounds (subst (λ (r : Option Answer). Done a.s.now (said_by a.line.now) r c.obey.new.s) c.in-None.is c.obey.ensures) c.wrong.ensures.0 c.wrong.ensures.1
