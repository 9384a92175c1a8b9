-- `listed::tell` meets its contract. Assumes nothing.
use mathlib.Core.Path.{refl}
use Prim.Native.Nat.{◌+◌}
use native.Mathlib.Omega.{arith}
use lib.ListN.{length}
use Rattle.listed.proofs.Holding.{note_put}
use Rattle.text.proofs.Putting.{ten_digits}
use Rattle.listed.proofs.tell.Goals as goal

pub put-next-requires : goal.put-next-requires
put-next-requires c =
    let t = ten_digits c.args.i (omega (arith, c.requires.i_bound.0)) in
    omega (arith, c.requires.at_in_bounds, c.bytes.auto, c.told-out)

pub bytes-requires-2 : goal.bytes-requires-2
bytes-requires-2 c =
    let t = ten_digits c.args.i (omega (arith, c.requires.i_bound.0)) in
    omega (arith, c.requires.i_bound.1, c.requires.at_in_bounds, c.bytes.auto, c.put-next.auto, c.put-next.ensures.1, c.told-out)

pub overflow_add-result : goal.overflow_add-result
overflow_add-result c =
    let t = ten_digits c.args.i (omega (arith, c.requires.i_bound.0)) in
    omega (arith, c.requires.i_bound.1, c.requires.at_in_bounds, c.put-next.ensures.1)

pub returns : goal.returns
returns c =
    let b = c.bytes in
    let p = c.put-next in
    let l = c.bytes-2 in
    let t = ten_digits c.args.i (omega (arith, c.requires.i_bound.0)) in
    record { out_after = note_put c.args.i c.args.end.now c.args.out.now _ _ _ c.args.at p.result (p.result + length c.args.end.now) b.ensures p.ensures.0 p.ensures.1 l.ensures refl (omega (arith, c.requires.i_bound.1, c.requires.at_in_bounds, p.ensures.1, c.told-out)); upper_bound = omega (arith, c.requires.i_bound.1, p.ensures.1) }
