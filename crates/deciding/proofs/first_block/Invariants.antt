-- `deciding::first_block` meets its contract: row after row, the first that blocks from there on is
-- the first of all. Assumes nothing.
use mathlib.Core.Path.{◌≡◌}
use lib.ListN.{drop}
use Rattle.rules.specs.Rules.{limits, first_block}
use Rattle.buffer.specs.Layout.{facts_of, view}
use Rattle.deciding.proofs.first_block.Given as goal

abbrev pub invariant-loop-i : goal.invariant-loop-i
invariant-loop-i l = first_block (view l.s) l.t (limits (facts_of l.s) l.q) ≡ first_block (view l.s) l.t (drop l.i (limits (facts_of l.s) l.q))
