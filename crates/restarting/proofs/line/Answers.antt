-- `restarting::line` meets its contract. Assumes nothing.
use Rattle.restarting.proofs.Stepping.{redo_refused, redo_same}
use Rattle.records.specs.Records.{types, same}
use mathlib.Core.List.{List}
use Prim.Native.Nat.{ℕ}
use mathlib.Core.Path.{ap, ◌∙◌}
use Rattle.restarting.proofs.line.Goals as goal

pub returns-in-Ok : goal.returns-in-Ok
returns-in-Ok c =
    let a = c.args in
    let e = c.in-Ok.ensures in
    redo_same a.state.now a.rec.now (types a.text.now) _ _ e.says c.requires.state_value e.refused _
    (c.same.ensures ∙ ap (λ (w : List ℕ). same w a.rec.now) c.spell_line.ensures)

pub returns-in-Err : goal.returns-in-Err
returns-in-Err c =
    let a = c.args in
    let e = c.in-Err.ensures in
    redo_refused a.state.now a.rec.now (types a.text.now) _ _ e.says c.requires.state_value e.refused
