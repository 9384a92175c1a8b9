-- `records::put_numbers` meets its contract. Assumes nothing.
use Prim.Native.Nat.{◌+◌, ◌*◌, ◌-◌}
use mathlib.Core.Path.{◌≡◌}
use lib.ListN.{length}
use native.Mathlib.Omega.{arith}
use Rattle.records.proofs.put_numbers.Goals as goal

pub returns : goal.returns
returns c = let o = c.args in let l = 4 * length o.numbers.now in let e : o.at + l - o.at ≡ l = omega arith in rw (c.write.ensures, e)
