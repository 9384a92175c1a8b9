-- `deciding::left` meets its contract. Assumes nothing.
use native.Mathlib.Omega.{arith}
use mathlib.Core.Path.{refl}
use borrow.Author.Tests.{le-leb, lt-leb}
use Rattle.buffer.specs.Layout.{facts_of}
use Rattle.buffer.proofs.Segments.{part_at}
use Rattle.refusals.proofs.Found.{none_zero, some_above}
use Rattle.deciding.proofs.left.Goals as goal

pub returns-then-q-gt3 : goal.returns-then-q-gt3
unfolding facts_of
returns-then-q-gt3 c = rw (lt-leb c.args.q 3 c.if-q-gt3.true)

pub returns-then-t-end : goal.returns-then-t-end
unfolding facts_of
returns-then-t-end c =
    rw (le-leb c.args.q 3 c.if-q-gt3.false, part_at c.args.s.now 35 4 c.args.q (omega arith)) (some_above _ _ refl (λ z. omega (arith, z, c.if-t-end.true)))

pub returns-else-t-end : goal.returns-else-t-end
unfolding facts_of
returns-else-t-end c =
    rw (le-leb c.args.q 3 c.if-q-gt3.false, part_at c.args.s.now 35 4 c.args.q (omega arith)) (none_zero _ (omega (arith, c.if-t-end.false)))
