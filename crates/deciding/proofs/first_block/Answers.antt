-- `deciding::first_block` meets its contract: row after row, the first that blocks from there on is
-- the first of all. Assumes nothing.
use mathlib.Core.Path.{◌≡◌, refl, sym, ◌∙◌}
use native.Mathlib.Omega.{arith}
use Rattle.rules.specs.Calls.{answer}
use Rattle.rules.specs.Rules.{limits}
use Rattle.buffer.specs.Layout.{view}
use Rattle.deciding.proofs.Deciding.{row_stands, row_rises, row_on, row_off, first_at}
use Rattle.deciding.proofs.first_block.Goals as goal

pub loop-i-init : goal.loop-i-init
loop-i-init c = refl

pub blocked_for-requires : goal.blocked_for-requires
blocked_for-requires c =
    let a = c.args in
    let i = c.loop-i.i in
    let r = c.limit-row in
    record { listed = row_stands a.s.now a.t a.q i r.result r.ensures c.requires.s_value; list_value = row_rises a.s.now a.t a.q i r.result r.ensures c.requires.s_value c.requires.s_bound }

pub returns-in-Some : goal.returns-in-Some
returns-in-Some c =
    let a = c.args in
    let l = c.loop-i in
    let r = c.limit-row in
    let o = c.blocked_for in
    let e = row_on a.s.now a.t a.q l.i r.result r.ensures c.requires.s_value c.requires.s_bound o.result o.ensures c.in-Some.seconds c.in-Some.is in
    (λ j. answer (r.ensures.number j) (e.1 j)) ∙ sym (l.invariant ∙ first_at (view a.s.now) a.t a.q l.i c.loop-i-test.true ∙ rw e.0)

pub loop-i-preserved : goal.loop-i-preserved
loop-i-preserved c =
    let a = c.args in
    let l = c.loop-i in
    let r = c.limit-row in
    let o = c.blocked_for in
    let e = row_off a.s.now a.t a.q l.i r.result r.ensures c.requires.s_value c.requires.s_bound o.result o.ensures c.in_default.is in
    l.invariant ∙ first_at (view a.s.now) a.t a.q l.i c.loop-i-test.true ∙ rw e

pub returns : goal.returns
unfolding limits
returns c =
    let n : c.loop-i.i ≡ 7 = omega arith in
    sym (c.loop-i.invariant ∙ rw n)
