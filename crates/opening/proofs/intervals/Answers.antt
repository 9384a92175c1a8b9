-- `opening::intervals` meets its contract. Assumes nothing.
use native.Mathlib.Omega.{arith}
use Rattle.opening.proofs.Copying.{padded}
use Rattle.opening.proofs.intervals.Goals as goal

pub returns : goal.returns
returns c =
    let a = c.args in
    rw (c.copy_from_slice.ensures.after) (padded a.s.now a.l.now 10 10 (omega (arith, c.told-s)) c.requires (c.fill.ensures.after (λ y e. e)))
