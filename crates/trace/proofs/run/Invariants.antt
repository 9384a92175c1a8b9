-- `trace::run` meets its contract. Assumes nothing.
use mathlib.Core.Bool.{false}
use mathlib.Core.List.{[]}
use Prim.Native.Nat.{◌≤◌}
use Rattle.answering.specs.Known.{Known}
use Rattle.answering.specs.Cut.{SomeTurned}
use Rattle.trace.proofs.run.Given as goal

abbrev pub invariant-loop : goal.invariant-loop
invariant-loop l = record {
  held : l.c.held ≤ 256;
  known : Known l.c.known l.state;
  turned : SomeTurned false 0 [] l.initial.state l.c l.buf l.state;
}
