-- `lines::answer_in` meets its contract. Assumes nothing.
use mathlib.Core.Path.{sym}
use Rattle.lines.proofs.answer_in.Goals as goal

pub respond-requires : goal.respond-requires
respond-requires c = record { ok_value = sym c.requires.s_value; in_bounds = c.requires.in_bounds }
