-- `listing::ending` meets its contract. Assumes nothing.
use mathlib.Core.List.{List, [], ◌∷◌}
use mathlib.Core.Path.{sym, ◌∙◌}
use Prim.Native.Nat.{ℕ}
use native.Mathlib.Omega.{arith}
use lib.ListN.{length-append, set}
use Rattle.listing.specs.Listing.{fields_of}
use Rattle.text.proofs.Putting.{sets_append}
use Rattle.listing.proofs.ending.Goals as goal

pub returns : goal.returns
returns c =
    let a = c.args.a in
    let f = c.fields-next.ensures in
    let l : List ℕ = fields_of (a.number ∷ a.second ∷ []) in
    let n = length-append l (10 ∷ []) in
    record { out_after = ((λ j. set (f.out_after.0 j) (f.out_after.1 j) 10) ∙ sym (sets_append c.args.out.now c.args.at l (10 ∷ [])), omega (arith, f.out_after.1, n)); upper_bound = omega (arith, f.upper_bound) }
