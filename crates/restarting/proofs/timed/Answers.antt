-- `restarting::timed` meets its contract. Assumes nothing.
use Rattle.restarting.proofs.Stepping.{timed_refused, timed_same}
use Rattle.records.specs.Records.{numbers_in}
use Prim.Native.Nat.{ℕ}
use mathlib.Core.Path.{ap, ◌∙◌}
use native.Mathlib.Omega.{arith}
use Rattle.restarting.proofs.timed.Goals as goal

pub returns-in-Ok : goal.returns-in-Ok
returns-in-Ok c =
    let a = c.args in
    let l = c.requires.v_len in
    let e = c.in-Ok.ensures in
    timed_same a.state.now a.rec.now c.requires.state_value a.x _ (c.numbers.auto.v ∙ l.0) (λ z. absurd (omega (arith, l.0, l.1, z)))
    (c.numbers.ensures ∙ ap (λ (k : ℕ). numbers_in k a.rec.now) l.0) _ c.event.ensures _ _ e.says e.refused _ c.spell.ensures _ c.same.ensures

pub returns-in-Err : goal.returns-in-Err
returns-in-Err c =
    let a = c.args in
    let l = c.requires.v_len in
    let e = c.in-Err.ensures in
    timed_refused a.state.now a.rec.now c.requires.state_value a.x _ (c.numbers.auto.v ∙ l.0) (λ z. absurd (omega (arith, l.0, l.1, z)))
    (c.numbers.ensures ∙ ap (λ (k : ℕ). numbers_in k a.rec.now) l.0) _ c.event.ensures _ _ e.says e.refused
