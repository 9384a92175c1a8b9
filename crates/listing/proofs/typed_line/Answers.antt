-- `listing::typed_line` meets its contract. Assumes nothing.
use mathlib.Core.List.{[], ◌∷◌}
use mathlib.Core.Path.{refl}
use Prim.Native.Nat.{◌+◌, ◌-◌}
use native.Mathlib.Omega.{arith}
use lib.Seq.{length-take-le}
use lib.ListN.{length, take}
use Rattle.listing.proofs.Printing.{line_put}
use Rattle.listing.specs.Listing.{line_of, end_of}
use Rattle.listing.proofs.typed_line.Goals as goal

pub returns : goal.returns
unfolding line_of
returns c =
    let n = length c.args.line.now - 1 in
    let f = c.bytes.ensures in
    let e = c.ending.ensures in
    let m = length-take-le n c.args.line.now (omega arith) in
    record { out_after = line_put (65 ∷ 32 ∷ []) (take n c.args.line.now) (end_of c.args.a) c.args.out.now _ _ 2 (2 + n) c.ending.result f refl e.out_after.0 (omega (arith, m)) e.out_after.1 (omega (arith, c.requires.0, c.requires.1, e.upper_bound)); upper_bound = omega (arith, c.requires.0, c.requires.1, e.upper_bound) }
