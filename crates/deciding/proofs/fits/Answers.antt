-- `deciding::fits` meets its contract. Assumes nothing.
use lib.Dec.{lit<}
use native.Mathlib.Omega.{arith}
use borrow.Author.Tests.{le-leb, lt-leb, ne_eqb}
use Rattle.rules.specs.Rules.{stands}
use Rattle.buffer.specs.Layout.{facts_of}
use Rattle.buffer.proofs.Segments.{part_at}
use Rattle.deciding.proofs.fits.Goals as goal

pub returns-in-0-to-3 : goal.returns-in-0-to-3
unfolding stands facts_of
returns-in-0-to-3 c = rw (le-leb c.args.q 3 (omega arith), part_at c.args.s.now 39 4 c.args.q (omega arith))

pub returns-in-4 : goal.returns-in-4
unfolding stands facts_of
returns-in-4 c = rw (c.in-4.is, part_at c.args.s.now 39 4 2 (lit< tt))

pub returns-in_default : goal.returns-in_default
unfolding stands facts_of
returns-in_default c = rw (lt-leb c.args.q 3 (omega arith), ne_eqb c.args.q 4 (λ z. grind (arith, z)))
