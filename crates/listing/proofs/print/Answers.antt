-- `listing::print` meets its contract. Assumes nothing.
use mathlib.Core.Path.{sym, ◌∙◌}
use native.Mathlib.Omega.{arith}
use lib.ListN.{length-take, get_or}
use Rattle.listing.proofs.Reading.{no_letter}
use Rattle.calls.proofs.Letters.{many_few}
use Rattle.listing.proofs.print.Goals as goal

pub returns-then-n-eq0 : goal.returns-then-n-eq0
returns-then-n-eq0 c = record { out_after = no_letter c.args.rec.now c.if-x-eq65.false (sym c.how_many-n.ensures ∙ c.if-n-eq0.true); result_bound = omega arith }

pub slice_bounds-v-end : goal.slice_bounds-v-end
slice_bounds-v-end c = omega (arith, c.how_many-n.ensures, many_few (get_or c.args.rec.now 0 0))

pub slice_bounds-timed-end : goal.slice_bounds-timed-end
slice_bounds-timed-end c =
    let n = c.how_many-n.result in
    let h = many_few (get_or c.args.rec.now 0 0) in
    simp (length-take) (omega (arith, c.how_many-n.ensures))

pub timed-requires-clause-v_len : goal.timed-requires-clause-v_len
timed-requires-clause-v_len c =
    let h = many_few (get_or c.args.rec.now 0 0) in
    let e = c.how_many-n.ensures in
    (simp length-take (omega (arith, e)), λ z. c.if-n-eq0.false (e ∙ z))
