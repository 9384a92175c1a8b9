-- `request::list` meets its contract. Assumes nothing.
use Prim.Native.Nat.{ℕ}
use mathlib.Core.Path.{ap, ◌∙◌}
use mathlib.Core.List.{List}
use native.Mathlib.Omega.{arith}
use lib.Dec.{lit<}
use borrow.Author.Tests.{le-leb, lt-leb, ne_eqb}
use Rattle.buffer.specs.Lists.{permitted}
use Rattle.buffer.proofs.Listing.{row_listed}
use Rattle.buffer.proofs.Laid.{laid_shaped, laid_as, laid_permit, laid_listed}
use Rattle.request.specs.Request.{listed}
use Rattle.request.proofs.list.Goals as goal

pub permit_on-requires-in-0 : goal.permit_on-requires-in-0
permit_on-requires-in-0 c = row_listed c.args.s.now c.requires 0 (lit< tt)

pub returns-in-0 : goal.returns-in-0
unfolding listed
returns-in-0 c = rw (le-leb c.args.q 1 (grind arith)) c.permit_on-in-0.ensures

pub permit_on-requires : goal.permit_on-requires
permit_on-requires c = row_listed c.args.s.now c.requires 1 (lit< tt)

pub permit_on-requires-in-2 : goal.permit_on-requires-in-2
permit_on-requires-in-2 c =
    laid_listed (laid_as (laid_permit (laid_shaped c.args.s.now c.requires) 1 c.args.t (lit< tt)) c.permit_on.ensures) 2 (lit< tt)

pub returns-in-2 : goal.returns-in-2
unfolding listed
returns-in-2 c = rw c.in-2.is (c.permit_on-in-2.ensures ∙ ap (λ (y : List ℕ). permitted y 2 c.args.t) c.permit_on.ensures)

pub permit_on-requires-in-3 : goal.permit_on-requires-in-3
permit_on-requires-in-3 c = row_listed c.args.s.now c.requires 3 (lit< tt)

pub returns-in-3 : goal.returns-in-3
unfolding listed
returns-in-3 c = rw c.in-3.is c.permit_on-in-3.ensures

pub permit_on-requires-in-4 : goal.permit_on-requires-in-4
permit_on-requires-in-4 c = row_listed c.args.s.now c.requires 2 (lit< tt)

pub returns-in-4 : goal.returns-in-4
unfolding listed
returns-in-4 c = rw c.in-4.is c.permit_on-in-4.ensures

pub permit_on-requires-in_default : goal.permit_on-requires-in_default
permit_on-requires-in_default c = row_listed c.args.s.now c.requires 4 (lit< tt)

pub returns-in_default : goal.returns-in_default
unfolding listed
returns-in_default c =
    rw
    (lt-leb c.args.q 1 (grind arith), ne_eqb c.args.q 2 (λ z. grind (arith, z)), ne_eqb c.args.q 3 (λ z. grind (arith, z)), ne_eqb c.args.q 4 (λ z. grind (arith, z)))
    c.permit_on-in_default.ensures
