-- `reasons::why` meets its contract. Assumes nothing.
use mathlib.Core.Path.{◌≡◌, ap, ◌∙◌}
use mathlib.Core.Bool.{true, false}
use mathlib.Core.List.{List}
use Prim.Native.Nat.{ℕ}
use Rattle.buffer.specs.Layout.{view}
use Rattle.buffer.specs.Good.{good}
use Rattle.reasons.specs.Why.{reasons, refused_by, why_of}
use Rattle.reasons.proofs.why.Goals as goal

of_good : (b : List ℕ) (t q : ℕ) → good b ≡ true → reasons (view b) t q ≡ why_of b t q
unfolding why_of
of_good b t q g = rw g

of_bad : (b : List ℕ) (t q : ℕ) → good b ≡ false → refused_by 1 ≡ why_of b t q
unfolding why_of
of_bad b t q g = rw g

pub returns-in-Some : goal.returns-in-Some
returns-in-Some c =
    let a = c.args in
    let whole = c.in-Some.ensures in
    c.why_in.ensures ∙ ap (λ (b : List ℕ). reasons (view b) a.time a.kind) whole.1 ∙ of_good a.state.now a.time a.kind whole.0

pub returns-in-None : goal.returns-in-None
returns-in-None c = let a = c.args in c.refused.ensures ∙ of_bad a.state.now a.time a.kind c.in-None.ensures
