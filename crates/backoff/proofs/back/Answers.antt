-- `backoff::back` meets its contract. Assumes nothing.
use mathlib.Core.Path.{ap, ◌∙◌}
use borrow.Author.Tests.{eq-eqb, ne_eqb}
use Prim.Native.Nat.{◌+◌}
use Rattle.services.specs.Services.{index_of}
use Rattle.backoff.specs.Backoffs.{backed, stored, later}
use Rattle.backoff.specs.declared.Backoff.{Backoff}
use Rattle.backoff.proofs.back.Goals as goal

pub returns-then-n-eq20 : goal.returns-then-n-eq20
unfolding backed
returns-then-n-eq20 c =
    let a = c.args in
    let is = c.failed.ensures ∙ ap (λ (b : Backoff). later b (a.t + a.w)) c.load.ensures in
    rw (eq-eqb _ _ c.if-n-eq20.true) (c.store.ensures ∙ ap (stored a.s.now (index_of a.service)) is)

pub returns-else-n-eq20 : goal.returns-else-n-eq20
unfolding backed
returns-else-n-eq20 c = rw (ne_eqb _ _ c.if-n-eq20.false)
