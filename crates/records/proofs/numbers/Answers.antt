-- `records::numbers` meets its contract. Assumes nothing.
use Rattle.records.specs.Records.{numbers_in}
use Prim.Native.Nat.{◌+◌, ◌*◌, ◌-◌}
use mathlib.Core.Path.{◌≡◌, ◌∙◌}
use lib.ListN.{length}
use native.Mathlib.Omega.{arith}
use Rattle.records.proofs.numbers.Goals as goal

pub returns : goal.returns
unfolding numbers_in
returns c = let n = length c.args.v.now in let e : 1 + 4 * n - 1 ≡ 4 * n = omega arith in c.read.ensures ∙ rw e
