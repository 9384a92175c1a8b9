-- `clock::advance` meets its contract. Assumes nothing.
use Prim.Native.Nat.{ℕ}
use mathlib.Core.Path.{◌∙◌}
use mathlib.Core.List.{List}
use lib.ListN.{set}
use Rattle.clock.specs.Clock.{leaked}
use Rattle.clock.proofs.Leaking.{clock_laid}
use Rattle.clock.proofs.advance.Goals as goal

pub returns : goal.returns
returns c =
    let b : List ℕ = c.args.s.now in
    let e1 = c.passed-g1.ensures in
    let e2 = c.passed-g2.ensures in
    let e3 = c.passed-g3.ensures in
    let y = c.leak.ensures ∙ (λ j. leaked b (e1 j) (e2 j) (e3 j)) in
    (clock_laid b c.requires c.args.t _ (λ i. set (y i) 3 c.args.t)).is
