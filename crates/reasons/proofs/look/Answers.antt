-- `reasons::look` meets its contract. Assumes nothing.
use mathlib.Core.Path.{◌≡◌, sym}
use mathlib.Core.List.{List}
use Prim.Native.Nat.{ℕ, ◌≤◌}
use Rattle.rules.specs.Calls.{timed}
use Rattle.rules.specs.declared.Event.TheVariants.{Ask as ask}
use Rattle.rules.specs.Rules.{refusal}
use Rattle.rules.proofs.Checks.{on_time}
use Rattle.buffer.specs.Layout.{facts_of}
use Rattle.deciding.proofs.Deciding.{row_stands, row_rises, row_on, row_time, row_off}
use Rattle.reasons.proofs.look.Goals as goal

late : (b : List ℕ) (t q : ℕ) → refusal (facts_of b) (timed t (ask q)) ≡ 0 → (facts_of b).last ≤ t
late b t q = on_time (facts_of b) t (ask q)

pub blocked_for-requires : goal.blocked_for-requires
blocked_for-requires c =
    let a = c.args in
    let r = c.limit in
    let past = late a.s.now a.t a.q c.requires.q_value in
    record { listed = row_stands a.s.now a.t a.q a.i r.result r.ensures c.requires.s_value; list_value = row_rises a.s.now a.t a.q a.i r.result r.ensures c.requires.s_value past }

pub returns-in_err-m-clause-stands_value : goal.returns-in_err-m-clause-stands_value
returns-in_err-m-clause-stands_value c =
    let a = c.args in
    let r = c.limit in
    let o = c.blocked_for in
    rw (c.from_residual.ensures, row_off a.s.now a.t a.q a.i r.result r.ensures c.requires.s_value (late a.s.now a.t a.q c.requires.q_value) o.result o.ensures c.in_err-m.was)

pub returns-in_err-m-clause-time_value : goal.returns-in_err-m-clause-time_value
returns-in_err-m-clause-time_value c =
    let a = c.args in
    let r = c.limit in
    let o = c.blocked_for in
    rw (c.from_residual.ensures, row_off a.s.now a.t a.q a.i r.result r.ensures c.requires.s_value (late a.s.now a.t a.q c.requires.q_value) o.result o.ensures c.in_err-m.was)

pub overflow_sub-result : goal.overflow_sub-result
overflow_sub-result c =
    let a = c.args in
    let r = c.limit in
    let o = c.blocked_for in
    (row_time a.s.now a.t a.q a.i r.result r.ensures c.requires.s_value (late a.s.now a.t a.q c.requires.q_value) o.result o.ensures c.in_ok-m.m c.in_ok-m.was).0

pub overflow_sub-result-2 : goal.overflow_sub-result-2
overflow_sub-result-2 c =
    let a = c.args in
    let r = c.limit in
    let o = c.blocked_for in
    (row_time a.s.now a.t a.q a.i r.result r.ensures c.requires.s_value (late a.s.now a.t a.q c.requires.q_value) o.result o.ensures c.in_ok-m.m c.in_ok-m.was).1.0

pub returns-clause-stands_value : goal.returns-clause-stands_value
returns-clause-stands_value c =
    let a = c.args in
    let r = c.limit in
    let o = c.blocked_for in
    sym (row_on a.s.now a.t a.q a.i r.result r.ensures c.requires.s_value (late a.s.now a.t a.q c.requires.q_value) o.result o.ensures c.in_ok-m.m c.in_ok-m.was).0

pub returns-clause-time_value : goal.returns-clause-time_value
returns-clause-time_value c =
    let a = c.args in
    let r = c.limit in
    let o = c.blocked_for in
    let e = (row_on a.s.now a.t a.q a.i r.result r.ensures c.requires.s_value (late a.s.now a.t a.q c.requires.q_value) o.result o.ensures c.in_ok-m.m c.in_ok-m.was).0 in
    let d = (row_time a.s.now a.t a.q a.i r.result r.ensures c.requires.s_value (late a.s.now a.t a.q c.requires.q_value) o.result o.ensures c.in_ok-m.m c.in_ok-m.was).1.1 in
    rw e d
