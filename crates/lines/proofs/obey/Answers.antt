-- `lines::obey` meets its contract. Assumes nothing.
use mathlib.Core.Path.{◌≡◌, sym, ap, subst, ◌∙◌}
use Prim.Native.Nat.{ℕ}
use native.Mathlib.Omega.{arith}
use lib.ListN.{get_or, drop}
use borrow.Author.Tests.{ltb-true, ltb-false}
use Rattle.std.proofs.lemmas.Option.{get_or_from_slice_get}
use Rattle.lines.specs.Line.{Done}
use Rattle.lines.specs.Trace.{Said, timed_line}
use Rattle.lines.proofs.Doing.{done_wrong, said_long, said_empty, said_open, said_typed, said_timed}
use Rattle.lines.proofs.obey.Goals as goal

pub returns-then-line-gt256 : goal.returns-then-line-gt256
returns-then-line-gt256 c = done_wrong (said_long c.args.line.now c.if-line-gt256.true)

pub returns-in_err-x : goal.returns-in_err-x
returns-in_err-x c = rw c.from_residual.ensures (done_wrong (said_empty c.args.line.now (omega arith) (omega (arith, ltb-false _ _ (sym c.in_err-x.ensures.item.0)))))

pub returns-in-79 : goal.returns-in-79
returns-in-79 c =
    let l = c.args.line.now in
    let x = c.in_ok-x in
    let first = get_or_from_slice_get l 0 x.field-0.now 0 (sym x.ensures.value) in
    let some = ltb-true _ _ (sym x.ensures.item.0) in
    subst (λ (w : Said). Done c.args.s.now w c.open_line.result c.open_line.new.s) (sym (said_open l (omega arith) (omega (arith, some)) (first ∙ c.in-79.is))) c.open_line.ensures

pub returns-in-65 : goal.returns-in-65
returns-in-65 c =
    let l = c.args.line.now in
    let x = c.in_ok-x in
    let first = get_or_from_slice_get l 0 x.field-0.now 0 (sym x.ensures.value) in
    let some = ltb-true _ _ (sym x.ensures.item.0) in
    let e = first ∙ c.in-65.is in
    subst (λ (w : Said). Done c.args.s.now w c.typed_line.result c.typed_line.new.s) (sym (said_typed l (omega arith) (omega (arith, some)) (omega (arith, e)) e)) c.typed_line.ensures

pub returns-in_default : goal.returns-in_default
returns-in_default c =
    let l = c.args.line.now in
    let x = c.in_ok-x in
    let first : get_or l 0 0 ≡ x.field-0.now = get_or_from_slice_get l 0 x.field-0.now 0 (sym x.ensures.value) in
    let some = ltb-true _ _ (sym x.ensures.item.0) in
    let said = said_timed l (omega arith) (omega (arith, some)) (omega (arith, first)) (omega (arith, first)) in
    subst (λ (w : Said). Done c.args.s.now w c.timed_line.result c.timed_line.new.s) (sym (said ∙ ap (λ (k : ℕ). timed_line k (drop 1 l)) first)) c.timed_line.ensures
