-- `inspect::good_mut` meets its contract. Assumes nothing.
use mathlib.Core.Path.{refl, sym, ◌∙◌}
use mathlib.Core.List.{List}
use Prim.Native.Nat.{ℕ}
use Rattle.std.proofs.Common.{MutBor}
use Rattle.inspect.proofs.Judged.{lent_on}
use Rattle.inspect.proofs.good_mut.Goals as goal

pub returns : goal.returns
returns c =
    let whole = lent_on (λ (r : MutBor (List ℕ)). r.now) c.args.s.now c.as_mut_array.result (sym c.is_good.ensures ∙ c.if-not-is_good.false) c.as_mut_array.ensures.cases in
    (refl, record { writes_back = tt; cases = whole })
