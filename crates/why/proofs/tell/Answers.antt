-- `why::tell` meets its contract. Assumes nothing.
use mathlib.Core.Path.{ap, ◌∙◌}
use mathlib.Core.List.{List, ◌++◌}
use Prim.Native.Nat.{ℕ}
use native.Mathlib.Omega.{arith}
use borrow.Author.Tests.{ne_eqb}
use Rattle.text.specs.Printed.{print_two}
use Rattle.rules.specs.Tables.{rules}
use Rattle.why.specs.Report.{lines_for, report}
use Rattle.why.proofs.Telling.{written}
use Rattle.why.proofs.tell.Goals as goal

pub returns-then-w-ne0 : goal.returns-then-w-ne0
unfolding report
returns-then-w-ne0 c = let x = c.args in let p = c.put_two.ensures in record { out_after = rw (ne_eqb x.w.refusal 0 c.if-w-ne0.true) (written x.out.now _ (print_two x.w.refusal 0) _ p.out_after.0 p.out_after.1 (omega (arith, p.out_after.1, p.upper_bound))); upper_bound = omega (arith, p.upper_bound) }

pub returns : goal.returns
unfolding report
returns c = let x = c.args in let p = c.put_two-at.ensures in let q = c.lines.ensures in record { out_after = rw c.if-w-ne0.false (q.out_after ∙ ap (λ (l : List ℕ). l ++ lines_for x.w.bits rules x.w.times) (written x.out.now _ (print_two x.w.first x.w.count) _ p.out_after.0 p.out_after.1 (omega (arith, p.out_after.1, p.upper_bound)))); upper_bound = omega (arith, p.upper_bound, q.upper_bound) }
