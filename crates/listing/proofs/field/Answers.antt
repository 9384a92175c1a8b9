-- `listing::field` meets its contract. Assumes nothing.
use mathlib.Core.Path.{◌∙◌}
use native.Mathlib.Omega.{arith}
use lib.ListN.{length-set}
use Rattle.listing.proofs.Printing.{field_length, field_put}
use Rattle.text.proofs.Putting.{ten_digits}
use Rattle.listing.proofs.field.Goals as goal

pub put-requires : goal.put-requires
put-requires c = let h = ten_digits c.args.n (omega arith) in simp length-set (omega arith)

pub returns : goal.returns
returns c =
    let e = c.put.ensures in
    let h = ten_digits c.args.n (omega arith) in
    let k = field_length c.args.n in
    record { out_after = (e.0 ∙ field_put c.args.n c.args.out.now c.args.at, omega (arith, e.1)); upper_bound = omega (arith, e.1) }
