-- `listing::fields` meets its contract. Assumes nothing.
use mathlib.Core.Path.{sym, ap, ◌∙◌}
use Prim.Native.Nat.{◌+◌}
use native.Mathlib.Omega.{arith}
use lib.Seq.{sets}
use lib.ListN.{length, drop}
use Rattle.listing.proofs.Printing.{fields_next, fields_long, fields_none}
use Rattle.listing.specs.Listing.{fields_of}
use Rattle.listing.proofs.fields.Goals as goal

pub loop-n-preserved : goal.loop-n-preserved
loop-n-preserved c =
    let l = c.loop-n in
    let v = c.args.v.now in
    let f = c.field-next.ensures in
    let t = c.loop-n-test.true in
    let k = fields_long v l.n-index t in
    (omega (arith, f.upper_bound, l.invariant.0), (λ j. sets (f.out_after.0 j) (f.out_after.1 j) (fields_of (drop (l.n-index + 1) v))) ∙ fields_next v l.n-index t l.out l.next ∙ l.invariant.1, omega (arith, f.out_after.1, l.invariant.2))

pub returns-clause-out_after : goal.returns-clause-out_after
returns-clause-out_after c =
    let l = c.loop-n in
    let n = fields_none c.args.v.now l.n-index c.loop-n-test.false in
    (sym (ap (sets l.out l.next) n) ∙ l.invariant.1, omega (arith, ap length n, l.invariant.2))
