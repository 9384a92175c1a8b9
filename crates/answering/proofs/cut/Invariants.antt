-- `answering::cut` meets its contract. Assumes nothing.
use Prim.Native.Nat.{◌≤◌, ◌+◌, ◌*◌, ◌-◌}
use Rattle.answering.specs.Cut.{Cut}
use Rattle.answering.specs.Known.{Known}
use Rattle.answering.proofs.cut.Given as goal

abbrev pub invariant-loop-left : goal.invariant-loop-left
invariant-loop-left l = record {
  begun : l.left.«start» ≤ l.left.place;
  from : l.initial.left.place ≤ l.left.place;
  within : l.left.place ≤ l.end;
  slow : l.left.«fill» + 22 * l.initial.left.place ≤ 22 * l.left.place;
  fits : l.left.«fill» ≤ 65536;
  known : Known l.left.known l.state;
  cut : Cut l.buf l.end l.initial.left l.initial.state l.initial.out l.left l.state l.out;
}

abbrev pub decreases-loop-left : goal.decreases-loop-left
decreases-loop-left l = l.end - l.left.place
