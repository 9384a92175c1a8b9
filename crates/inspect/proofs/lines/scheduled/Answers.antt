-- `inspect::lines::scheduled` meets its contract. Assumes nothing.
use Prim.Native.Nat.{ℕ}
use mathlib.Core.Path.{ap, ◌∙◌}
use mathlib.Core.List.{List}
use lib.ListN.{get_or}
use Rattle.rules.specs.Tables.{ascending}
use Rattle.buffer.specs.Layout.{facts_of}
use Rattle.buffer.specs.Good.{at_most, lines}
use Rattle.buffer.proofs.Tests.{both}
use Rattle.inspect.proofs.Scans.{span, spare}
use Rattle.inspect.proofs.lines.scheduled.Goals as goal

pub returns : goal.returns
unfolding lines facts_of
returns c =
    let b : List ℕ = c.args.s.now in
    let n : ℕ = get_or b 9 0 in
    both (c.rising.ensures ∙ ap (ascending 1 65535) (span b 10 n)) (c.capped.ensures ∙ ap (at_most 0) (spare b 10 n 10))
