-- `outcome::asked` meets its contract. Assumes nothing.
use mathlib.Core.Path.{sym, ap, ◌∙◌}
use Prim.Native.Nat.{ℕ, ◌+◌}
use native.Mathlib.Omega.{arith}
use lib.Dec.{eqb}
use lib.ListN.{length-take, get_or, get_or-eq_default}
use Rattle.buffer.specs.Layout.{facts_of}
use Rattle.buffer.specs.Places.{STANDING}
use Rattle.buffer.specs.Segments.{part}
use Rattle.buffer.proofs.Segments.{part_at}
use Rattle.outcome.proofs.Outcomes.{then_asked}
use Rattle.outcome.proofs.asked.Goals as goal

pub returns-in_default-clause-stands : goal.returns-in_default-clause-stands
unfolding facts_of
returns-in_default-clause-stands c =
    ap (λ (n : ℕ). eqb n 1) (sym (get_or-eq_default (part c.args.s.now STANDING 4) 0 {n = c.args.number} (simp length-take (omega (arith, c.in_default.ensures)))))

pub returns-clause-stands : goal.returns-clause-stands
unfolding facts_of
returns-clause-stands c =
    let i = c.index.ensures.value ∙ c.in-Ok.ensures in
    rw c.then_some.ensures
    (then_asked (eqb (get_or c.args.s.now (STANDING + c.index.result) 0) 1) c.in-Ok.service
    ∙ ap (λ (n : ℕ). eqb n 1) (sym (part_at c.args.s.now STANDING 4 c.index.result c.index.ensures.bound) ∙ ap (λ (k : ℕ). get_or (part c.args.s.now STANDING 4) k 0) i))
