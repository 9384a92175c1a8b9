-- `inspect::lines::band` meets its contract. Assumes nothing.
use mathlib.Core.Path.{ap, ◌∙◌}
use Rattle.buffer.specs.Good.{at_most}
use Rattle.inspect.proofs.Scans.{span}
use Rattle.inspect.proofs.lines.band.Goals as goal

pub returns : goal.returns
returns c = let a = c.args in c.capped.ensures ∙ ap (at_most a.hi) (span a.s.now a.a a.n)
