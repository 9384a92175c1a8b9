-- `listing::timed_line` meets its contract. Assumes nothing.
use mathlib.Core.List.{[], ◌∷◌}
use mathlib.Core.Path.{refl}
use native.Mathlib.Omega.{arith}
use Rattle.listing.proofs.Printing.{line_put}
use Rattle.listing.specs.Listing.{fields_of, end_of}
use Rattle.listing.proofs.timed_line.Goals as goal

pub returns : goal.returns
returns c =
    let f = c.fields-next.ensures in
    let e = c.ending.ensures in
    record { out_after = line_put (c.args.x ∷ []) (fields_of c.args.v.now) (end_of c.args.a) c.args.out.now _ _ 1 c.fields-next.result c.ending.result f.out_after.0 refl e.out_after.0 f.out_after.1 e.out_after.1 (omega (arith, c.requires, f.upper_bound, e.upper_bound)); upper_bound = omega (arith, c.requires, f.upper_bound, e.upper_bound) }
