-- `listed::line` meets its contract. Assumes nothing.
use mathlib.Core.Path.{◌∙◌}
use Prim.Native.Nat.{◌+◌}
use native.Mathlib.Omega.{arith}
use lib.ListN.{take}
use Rattle.listed.proofs.Holding.{a_line}
use Rattle.listed.proofs.line.Goals as goal

pub returns-in-Line-clause-out_after : goal.returns-in-Line-clause-out_after
returns-in-Line-clause-out_after c =
    let o = c.args in
    let n = c.in-Line in
    (λ j. take (o.at + n.n) (c.bytes.ensures j)) ∙ a_line o.out.now c.look.new.out o.at n.n (omega (arith, n.ensures.result_bound)) (omega (arith, n.ensures.result_bound)) _ n.ensures.out_after
