-- `lines::file` meets its contract: the numbers passed are copied. Assumes nothing.
use mathlib.Core.Path.{◌≡◌, ap, ◌∙◌}
use mathlib.Core.List.{List}
use Prim.Native.Nat.{ℕ, ◌+◌}
use native.Mathlib.Omega.{arith}
use lib.ListN.{length, get_or, set}
use lib.Seq as seq
use lib.Seq.{take_all}
use Rattle.opening.proofs.Copying.{copy_next, copy_end}
use Rattle.lines.proofs.file.Goals as goal

pub overflow_cast-out : goal.overflow_cast-out
overflow_cast-out c = omega (arith, c.requires.up_to c.loop-i.i (omega arith))

pub loop-i-preserved : goal.loop-i-preserved
loop-i-preserved c =
    let a = c.args in
    let l = c.loop-i in
    let z : l.i ≡ 0 + l.i = omega arith in
    rw l.invariant (ap (λ (k : ℕ). set (seq.paste a.out.now 0 a.v.now l.i) k (get_or a.v.now l.i 0)) z ∙ copy_next a.out.now a.v.now 0 l.i (omega arith) (omega arith))

pub returns : goal.returns
returns c =
    let a = c.args in
    let v : List ℕ = a.v.now in
    let e : c.loop-i.i ≡ length v = omega arith in
    c.loop-i.invariant ∙ rw e (copy_end a.out.now v 0 (length v) (omega arith) ∙ rw (take_all (length v) v (omega arith)))
