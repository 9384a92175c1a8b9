-- `opening::load` meets its contract: the bytes passed are copied. Assumes nothing.
use mathlib.Core.Path.{◌≡◌}
use lib.Seq as seq
use lib.Seq.{paste-zero, take_all}
use Rattle.opening.proofs.load.Given as goal

abbrev pub invariant-loop-i : goal.invariant-loop-i
invariant-loop-i l = l.s ≡ seq.paste l.initial.s l.a l.p l.i
