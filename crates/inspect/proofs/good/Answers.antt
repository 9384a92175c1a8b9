-- `inspect::good` meets its contract. Assumes nothing.
use mathlib.Core.Path.{sym, ◌∙◌}
use mathlib.Core.List.{List}
use Prim.Native.Nat.{ℕ}
use Rattle.std.proofs.Common.{Bor}
use Rattle.inspect.proofs.Judged.{lent_on}
use Rattle.inspect.proofs.good.Goals as goal

pub returns : goal.returns
returns c =
    lent_on (λ (r : Bor (List ℕ)). r.now) c.args.s.now c.as_array.result (sym c.is_good.ensures ∙ c.if-not-is_good.false) c.as_array.ensures.cases
