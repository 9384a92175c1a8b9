-- `inspect::lines::row` meets its contract. Assumes nothing.
use Prim.Native.Nat.{ℕ, ◌+◌, ◌*◌}
use mathlib.Core.Path.{ap, ◌∙◌}
use mathlib.Core.List.{List}
use lib.ListN.{get_or}
use Rattle.rules.specs.Tables.{ascending}
use Rattle.buffer.specs.Layout.{facts_of}
use Rattle.buffer.specs.Good.{at_most, row_good}
use Rattle.buffer.proofs.Tests.{both}
use Rattle.inspect.proofs.Scans.{span, spare}
use Rattle.inspect.proofs.lines.row.Goals as goal

pub returns : goal.returns
unfolding row_good facts_of
returns c =
    let a = c.args in
    let b : List ℕ = a.s.now in
    let at : ℕ = 55 + 255 * a.k in
    let n : ℕ = get_or b (50 + a.k) 0 in
    both (c.rising.ensures ∙ ap (ascending (get_or b 2 0) (get_or b 3 0)) (span b at n)) (c.capped.ensures ∙ ap (at_most 0) (spare b at n 255))
