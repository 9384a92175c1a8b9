-- `restarting::replay` meets its contract. Assumes nothing.
use lib.Seq.{slice}
use Rattle.buffer.specs.Good.{good}
use Rattle.journal.specs.Area.{slots, replay}
use Rattle.restarting.specs.Restarting.{step}
use mathlib.Core.Path.{◌≡◌}
use mathlib.Core.Bool.{true}
use lib.ListN.{take}
use Rattle.restarting.proofs.replay.Given as goal

abbrev pub invariant-loop-i : goal.invariant-loop-i
invariant-loop-i l = (good l.state ≡ true) × (replay step l.state (slice l.i l.n (slots l.area)) ≡ replay step l.initial.state (take l.n (slots l.area)))
