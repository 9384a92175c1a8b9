-- `inspect::scan::rising` meets its contract: the flag and what is left, from the last number on,
-- decide. Assumes nothing.
use mathlib.Core.Path.{refl}
use Rattle.inspect.proofs.Scans.{climbs_next, last_next, climbs_end}
use Rattle.inspect.proofs.scan.rising.Goals as goal

pub loop-x-init : goal.loop-x-init
loop-x-init c = (refl, refl)

pub loop-x-preserved : goal.loop-x-preserved
loop-x-preserved c =
    let l = c.loop-x in
    let t = c.loop-x-test.true in
    (climbs_next _ l.low _ _ l.ok l.invariant.0 l.invariant.1 t, last_next _ l.low _ _ l.ok l.invariant.0 l.invariant.1 t)

pub returns : goal.returns
returns c = let l = c.loop-x in rw c.is_empty.ensures (climbs_end _ l.low _ _ l.ok l.invariant.0 l.invariant.1 _ c.loop-x-test.false)
