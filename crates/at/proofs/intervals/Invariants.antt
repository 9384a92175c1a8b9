-- `at::intervals`: what is left to read answers for the whole. Assumes nothing.
use Prim.Native.Nat.{ℕ, ◌+◌, ◌-◌}
use mathlib.Core.Path.{◌≡◌}
use mathlib.Core.List.{[]}
use lib.ListN.{length, take, drop, replicate}
use Rattle.at.specs.Lines.{ints}
use Rattle.at.proofs.intervals.Given as goal

abbrev pub invariant-loop-n : goal.invariant-loop-n
invariant-loop-n l = (length l.list ≡ 10) × (drop l.n l.list ≡ replicate (10 - l.n) 0) × ((k : ℕ) → k + l.n ≡ 10 → ints k (drop l.from l.line) l.last (take l.n l.list) ≡ ints 10 (drop l.at l.line) 1 [])
