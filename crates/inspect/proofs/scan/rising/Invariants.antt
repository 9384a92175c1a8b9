-- `inspect::scan::rising` meets its contract: the flag and what is left, from the last number on,
-- decide. Assumes nothing.
use mathlib.Core.Path.{◌≡◌}
use mathlib.Core.Bool.{◌&&◌}
use lib.ListN.{drop}
use Rattle.inspect.proofs.Scans.{climbs, last_of}
use Rattle.inspect.proofs.scan.rising.Given as goal

abbrev pub invariant-loop-x : goal.invariant-loop-x
invariant-loop-x l = (climbs l.lo l.p ≡ (l.ok && climbs l.low (drop l.x-index l.p))) × (last_of l.lo l.p ≡ last_of l.low (drop l.x-index l.p))
