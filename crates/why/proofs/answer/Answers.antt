-- `why::answer` meets its contract. Assumes nothing.
use mathlib.Core.Path.{ap, ◌∙◌}
use mathlib.Core.List.{List}
use Prim.Native.Nat.{ℕ}
use Rattle.buffer.specs.Places.{BYTES}
use Rattle.reasons.specs.Why.{why_of}
use native.Mathlib.Omega.{arith}
use lib.ListN.{length}
use borrow.Author.Tests.{ne_eqb}
use Rattle.text.specs.Printed.{print_two}
use Rattle.why.specs.Report.{report, report_on}
use Rattle.why.proofs.Telling.{written}
use Rattle.why.proofs.answer.Goals as goal

pub returns-then-bytes-ne-BYTES : goal.returns-then-bytes-ne-BYTES
unfolding report report_on
returns-then-bytes-ne-BYTES c = let x = c.args in let p = c.put_two.ensures in record { out_after = rw (ne_eqb (length x.bytes.now) BYTES c.if-bytes-ne-BYTES.true) (written x.out.now _ (print_two 1 0) _ p.out_after.0 p.out_after.1 (omega (arith, p.out_after.1, p.upper_bound))); upper_bound = omega (arith, p.upper_bound) }

pub returns : goal.returns
unfolding report_on
returns c = let x = c.args in let t = c.tell.ensures in record { out_after = rw c.if-bytes-ne-BYTES.false (t.out_after ∙ ap report (c.why.ensures ∙ ap (λ (b : List ℕ). why_of b x.time x.kind) c.read.ensures)); upper_bound = t.upper_bound }
