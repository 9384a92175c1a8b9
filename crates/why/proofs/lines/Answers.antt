-- `why::lines` meets its contract: what was written, and the lines of the rules that are left, are
-- all the lines. Assumes nothing.
use mathlib.Core.Path.{◌≡◌, sym, ap, ◌∙◌}
use mathlib.Core.List.{◌++◌, append-nil}
use Prim.Native.Nat.{ℕ, ◌+◌, ◌/◌}
use native.Mathlib.Omega.{arith}
use lib.ListN.{take, drop}
use Rattle.rules.specs.Tables.{rules}
use Rattle.why.specs.Report.{lines_for}
use Rattle.why.proofs.Telling.{line_next}
use Rattle.why.proofs.lines.Goals as goal

pub loop-i-preserved : goal.loop-i-preserved
loop-i-preserved c =
    let l = c.loop-i in
    let n = c.line-next.ensures in
    let k = line_next l.left l.i c.args.times (omega arith) l.out l.next (omega (arith, n.out_after.1, n.upper_bound)) in
    record {
      fits = omega (arith, n.upper_bound);
      written = (λ j. take (n.out_after.1 j) (n.out_after.0 j) ++ lines_for (l.left / 2) (drop (l.i + 1) rules) (drop (l.i + 1) c.args.times)) ∙ k ∙ l.invariant.written;
    }

pub returns : goal.returns
returns c =
    let l = c.loop-i in
    let e : 8 ≡ l.i = omega arith in
    record {
      out_after = sym (append-nil (take l.next l.out)) ∙ ap (λ (i : ℕ). take l.next l.out ++ lines_for l.left (drop i rules) (drop i c.args.times)) e ∙ l.invariant.written;
      upper_bound = omega arith;
    }
