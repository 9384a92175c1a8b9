-- `opening::head` meets its contract. Assumes nothing.
use mathlib.Core.List.{[], ◌∷◌}
use Prim.Native.Nat.{◌/◌, ◌%◌, ◌^◌}
use native.Mathlib.Omega.{arith}
use lib.ListN.{length}
use Rattle.buffer.specs.Places.{CURRENT, LETTERS}
use Rattle.buffer.specs.Layout.{letters}
use Rattle.opening.proofs.Copying.{stored}
use Rattle.opening.proofs.head.Goals as goal

pub returns : goal.returns
returns c =
    let x = c.args in
    let a = x.given in
    stored x.s.now (letters ∷ CURRENT ∷ x.time ∷ x.time ∷ a.imsi / 2 ^ 32 ∷ a.imsi % 2 ^ 32 ∷ a.nfm ∷ 0 ∷ a.rpm ∷ length a.intervals.now ∷ []) LETTERS (omega (arith, c.told-s))
