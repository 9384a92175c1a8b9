-- `opening::load` meets its contract: the bytes passed are copied. Assumes nothing.
use mathlib.Core.Path.{◌≡◌, ◌∙◌}
use mathlib.Core.List.{List}
use Prim.Native.Nat.{ℕ}
use native.Mathlib.Omega.{arith}
use lib.ListN.{length}
use lib.Seq.{take_all}
use Rattle.opening.proofs.Copying.{copy_next, copy_end}
use Rattle.opening.proofs.load.Goals as goal

pub loop-i-preserved : goal.loop-i-preserved
loop-i-preserved c =
    let a = c.args in
    let l = c.loop-i in
    rw (c.from.ensures, l.invariant) (copy_next a.s.now a.p.now a.a l.i (omega (arith, c.told-s, c.requires)) (omega arith))

pub returns : goal.returns
returns c =
    let a = c.args in
    let p : List ℕ = a.p.now in
    let e : c.loop-i.i ≡ length p = omega arith in
    c.loop-i.invariant ∙ rw e (copy_end a.s.now p a.a (length p) (omega arith) ∙ rw (take_all (length p) p (omega arith)))
