-- `text::decimal` meets its contract. Assumes nothing.
use Rattle.std.proofs.Common.{◌≡◌, ◌≤◌, drop}
use Rattle.text.specs.Number.{digits, num}
use Rattle.text.proofs.decimal.Given as goal

abbrev pub invariant-loop-next : goal.invariant-loop-next
invariant-loop-next l = (l.value ≤ l.most) × (digits l.most (drop l.next l.line) l.value ≡ num l.most (drop l.at l.line))
