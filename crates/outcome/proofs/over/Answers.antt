-- `outcome::over` meets its contract. Assumes nothing.
use mathlib.Core.Path.{ap, ◌∙◌}
use Prim.Native.Nat.{ℕ}
use mathlib.Core.List.{List}
use Rattle.services.specs.Services.{index_of}
use Rattle.outcome.specs.Outcome.{rested}
use Rattle.outcome.proofs.over.Goals as goal

pub returns : goal.returns
returns c =
    let a = c.args in
    c.rest.ensures ∙ ap (λ (b : List ℕ). rested b (index_of a.service) 0 a.m) c.advance.ensures
