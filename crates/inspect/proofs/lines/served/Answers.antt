-- `inspect::lines::served` meets its contract. Assumes nothing.
use Prim.Native.Nat.{ℕ}
use mathlib.Core.List.{List}
use lib.Dec.{lit<}
use Rattle.buffer.specs.Layout.{facts_of}
use Rattle.buffer.specs.Good.{lines, ends_good, standing_good, mood_good}
use Rattle.buffer.proofs.Segments.{part_at}
use Rattle.inspect.proofs.lines.served.Goals as goal

pub returns : goal.returns
unfolding lines facts_of ends_good standing_good mood_good
returns c =
    let b : List ℕ = c.args.s.now in
    cc (part_at b 39 4 0 (lit< tt), part_at b 39 4 1 (lit< tt), part_at b 39 4 2 (lit< tt), part_at b 39 4 3 (lit< tt), part_at b 35 4 2 (lit< tt))
