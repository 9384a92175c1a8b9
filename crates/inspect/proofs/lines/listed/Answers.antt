-- `inspect::lines::listed` meets its contract. Assumes nothing.
use lib.Dec.{lit<}
use Rattle.buffer.specs.Places.{LENGTHS}
use Rattle.buffer.specs.Good.{lines}
use Rattle.buffer.proofs.Tests.{both}
use Rattle.buffer.proofs.Goodness.{byte_low}
use Rattle.inspect.proofs.lines.listed.Goals as goal

pub row-requires : goal.row-requires
row-requires c = record { in_bounds = c.requires.in_bounds; k_bound = lit< tt; k_bound_2 = byte_low c.args.s.now LENGTHS 5 c.requires.s_value 0 (lit< tt) }

pub row-requires-2 : goal.row-requires-2
row-requires-2 c = record { in_bounds = c.requires.in_bounds; k_bound = lit< tt; k_bound_2 = byte_low c.args.s.now LENGTHS 5 c.requires.s_value 1 (lit< tt) }

pub row-requires-3 : goal.row-requires-3
row-requires-3 c = record { in_bounds = c.requires.in_bounds; k_bound = lit< tt; k_bound_2 = byte_low c.args.s.now LENGTHS 5 c.requires.s_value 2 (lit< tt) }

pub row-requires-4 : goal.row-requires-4
row-requires-4 c = record { in_bounds = c.requires.in_bounds; k_bound = lit< tt; k_bound_2 = byte_low c.args.s.now LENGTHS 5 c.requires.s_value 3 (lit< tt) }

pub row-requires-5 : goal.row-requires-5
row-requires-5 c = record { in_bounds = c.requires.in_bounds; k_bound = lit< tt; k_bound_2 = byte_low c.args.s.now LENGTHS 5 c.requires.s_value 4 (lit< tt) }

pub returns : goal.returns
unfolding lines
returns c =
    both (both (both (both c.row.ensures c.row-2.ensures) c.row-3.ensures) c.row-4.ensures)
    c.row-5.ensures
