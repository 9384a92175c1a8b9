-- `listing::answer` meets its contract. Assumes nothing.
use mathlib.Core.List.{List}
use mathlib.Core.Path.{◌≡◌, ap}
use Prim.Native.Nat.{ℕ, ◌+◌, ◌-◌}
use native.Mathlib.Omega.{arith}
use lib.ListN.{get_or}
use Rattle.listing.specs.Listing.{answer_from}
use Rattle.rules.specs.Calls.{answer}
use Rattle.listing.proofs.answer.Goals as goal

pub returns : goal.returns
unfolding answer_from
returns c =
    let o = c.args in
    let e : o.at + 8 - o.at ≡ 8 = omega arith in
    ap (λ (v : List ℕ). answer (get_or v 0 0) (get_or v 1 0)) (rw e at c.read.ensures)
