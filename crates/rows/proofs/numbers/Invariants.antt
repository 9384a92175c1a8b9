-- `rows::numbers` meets its contract: what is left to read answers for the whole. Assumes nothing.
use Rattle.rows.specs.Rows.{numbers}
use Rattle.std.proofs.Common.{ℕ, ◌+◌, ◌≡◌, [], length, take, drop}
use Rattle.rows.proofs.numbers.Given as goal

abbrev pub invariant-loop-n : goal.invariant-loop-n
invariant-loop-n l = (k : ℕ) → k + l.n ≡ length l.out → numbers l.sep l.most k (drop l.from l.line) (take l.n l.out) ≡ numbers l.sep l.most (length l.out) (drop l.at l.line) []
