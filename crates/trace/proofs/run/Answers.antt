-- `trace::run` meets its contract. Assumes nothing.
use mathlib.Core.Path.{refl}
use native.Mathlib.Omega.{arith}
use borrow.Author.Tests.{not-false}
use Rattle.text.proofs.Choice.{absurd_bool}
use Rattle.trace.proofs.Turning.{turned_none, turned_on}
use Rattle.trace.proofs.run.Goals as goal

pub loop-init : goal.loop-init
loop-init c = record { held = omega arith; known = λ e. absurd_bool e; turned = turned_none refl refl refl }

pub loop-preserved : goal.loop-preserved
loop-preserved c =
    let n = c.turn-c.ensures in
    record { held = n.held_bound_2.0; known = n.held_bound_2.1; turned = turned_on c.loop.invariant.turned (not-false _ c.if-not-c.false) n.some_turned }
