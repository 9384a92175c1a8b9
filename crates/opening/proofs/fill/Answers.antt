-- `opening::fill` meets its contract. Assumes nothing.
use mathlib.Core.Path.{ap, ◌∙◌}
use mathlib.Core.List.{[]}
use Prim.Native.Nat.{ℕ}
use lib.ListN.{replicate}
use Rattle.opening.specs.Open.{order}
use Rattle.opening.proofs.Filling.{filled}
use Rattle.opening.proofs.fill.Goals as goal

pub returns : goal.returns
returns c =
    let a = c.args in
    let g = a.given in
    let o = order a.time g.imsi g.intervals.now g.nfm g.rpm g.a1 g.s1 [] [] [] [] [] in
    filled o c.requires.few a.parameters.now a.leaks.now a.counters.now c.told-parameters c.told-leaks c.told-counters
    (c.fill.ensures.after (λ y e. e) ∙ ap (λ (n : ℕ). replicate n 0) c.told-s)
    c.head.ensures
    c.intervals.ensures
    c.limits.ensures
    c.load.ensures
