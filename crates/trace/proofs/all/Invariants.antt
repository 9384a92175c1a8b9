-- `trace::all` meets its contract: what the rest leaves, after each cut, is what the whole leaves.
-- Assumes nothing.
use mathlib.Core.Path.{◌≡◌}
use mathlib.Core.List.{List}
use Prim.Native.Nat.{ℕ, ◌≤◌, ◌-◌}
use Rattle.answering.specs.Known.{Known}
use Rattle.answering.specs.Cut.{rest_leaves}
use Rattle.trace.proofs.all.Given as goal

abbrev pub invariant-loop-left : goal.invariant-loop-left
invariant-loop-left l = record {
  begun : l.left.«start» ≤ l.left.place;
  within : l.left.place ≤ l.end;
  empty : l.left.«fill» ≡ 0;
  known : Known l.left.known l.state;
  leaves : (later : List ℕ) → rest_leaves l.buf l.end l.left l.state later ≡ rest_leaves l.buf l.end l.initial.left l.initial.state later;
}

abbrev pub decreases-loop-left : goal.decreases-loop-left
decreases-loop-left l = l.end - l.left.place
