-- `lines::file` meets its contract: the numbers passed are copied. Assumes nothing.
use mathlib.Core.Path.{◌≡◌}
use lib.Seq as seq
use Rattle.lines.proofs.file.Given as goal

abbrev pub invariant-loop-i : goal.invariant-loop-i
invariant-loop-i l = l.out ≡ seq.paste l.initial.out 0 l.v l.i
