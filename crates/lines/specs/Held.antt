-- The code's form of what ends an opening. Assumes nothing.
use Rattle.std.specs.Prelude.{Option, Some, None}
use Rattle.lines.specs.Trace.{Ending, ending, no_ending}
use Rattle.lines.specs.declared.Tail.{Tail}

-- the ending of an opening: the two files, and the house limits
abbrev pub ending_by : Option Tail → Ending
ending_by (Some t) = ending t.parameters t.rates t.a1 t.s1
ending_by None = no_ending
