-- `clock::points` meets its contract. Assumes nothing.
use mathlib.Core.Path.{◌≡◌}
use native.Mathlib.Nat.{div-zero}
use native.Mathlib.Omega.{arith}
use Rattle.clock.proofs.points.Goals as goal

pub returns-then-rate-eq0 : goal.returns-then-rate-eq0
returns-then-rate-eq0 c = let z : c.args.rate ≡ 0 = omega arith in rw (z, div-zero c.args.seconds)
