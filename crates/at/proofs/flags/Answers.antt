-- `at::flags` meets its contract. Assumes nothing.
use Prim.Native.Nat.{◌+◌}
use mathlib.Core.Path.{refl, sym, ap}
use native.Mathlib.Omega.{arith}
use Rattle.at.specs.Lines.{comma}
use Rattle.at.specs.Order.{order_of}
use Rattle.at.proofs.LineLaws.{starts_in, flag_in}
use Rattle.at.proofs.FlagsLaws.{flags_ask, flags_none, flags_nfm, flags_other, flags_none2, flags_start, flags_open}
use Rattle.at.proofs.flags.Goals as goal

pub returns-then-ends : goal.returns-then-ends
returns-then-ends c = ap order_of (sym (flags_ask c.args.line.now c.args.at (sym c.if-ends.ensures)))

pub returns-in_err-a : goal.returns-in_err-a
returns-in_err-a c = let e = c.in_err-a.ensures in rw c.from_residual.ensures (ap order_of (sym (flags_none c.args.line.now c.args.at (sym c.if-ends.ensures) _ refl (omega arith))))

pub overflow_add-at : goal.overflow_add-at
overflow_add-at c = let a = c.in_ok-a.ensures in let h = flag_in c.args.line.now c.args.at _ a.0 a.1 in omega arith

pub returns-then-ends-2 : goal.returns-then-ends-2
returns-then-ends-2 c = let a = c.in_ok-a.ensures in ap order_of (sym (flags_nfm c.args.line.now c.args.at (sym c.if-ends.ensures) _ a.0 a.1 (sym c.if-ends-2.ensures)))

pub overflow_add-at-2 : goal.overflow_add-at-2
overflow_add-at-2 c = let a = c.in_ok-a.ensures in let h = flag_in c.args.line.now c.args.at _ a.0 a.1 in omega arith

pub returns-then-not-starts : goal.returns-then-not-starts
returns-then-not-starts c = let a = c.in_ok-a.ensures in ap order_of (sym (flags_other c.args.line.now c.args.at (sym c.if-ends.ensures) _ a.0 a.1 (sym c.if-ends-2.ensures) (sym c.if-not-starts.ensures)))

pub overflow_add-at-3 : goal.overflow_add-at-3
overflow_add-at-3 c = let h = starts_in comma c.args.line.now (c.args.at + 1) (sym c.if-not-starts.ensures) in omega arith

pub returns-in_err-s : goal.returns-in_err-s
returns-in_err-s c =
    let a = c.in_ok-a.ensures in
    let e = c.in_err-s.ensures in
    rw c.from_residual-in_err-s.ensures (ap order_of (sym (flags_none2 c.args.line.now c.args.at (sym c.if-ends.ensures) _ a.0 a.1 (sym c.if-ends-2.ensures) (sym c.if-not-starts.ensures) _ refl (omega arith))))

pub overflow_add-at-4 : goal.overflow_add-at-4
overflow_add-at-4 c = let s = c.in_ok-s.ensures in let h = flag_in c.args.line.now (c.args.at + 2) _ s.0 s.1 in omega arith

pub returns-then-ends-3 : goal.returns-then-ends-3
returns-then-ends-3 c =
    let a = c.in_ok-a.ensures in
    let s = c.in_ok-s.ensures in
    ap order_of (sym (flags_start c.args.line.now c.args.at (sym c.if-ends.ensures) _ a.0 a.1 (sym c.if-ends-2.ensures) (sym c.if-not-starts.ensures) _ s.0 s.1 (sym c.if-ends-3.ensures)))

pub returns-else-ends-3 : goal.returns-else-ends-3
returns-else-ends-3 c =
    let a = c.in_ok-a.ensures in
    let s = c.in_ok-s.ensures in
    ap order_of (sym (flags_open c.args.line.now c.args.at (sym c.if-ends.ensures) _ a.0 a.1 (sym c.if-ends-2.ensures) (sym c.if-not-starts.ensures) _ s.0 s.1 (sym c.if-ends-3.ensures)))
