-- `noting::command_in` meets its contract. Assumes nothing.
use mathlib.Core.Path.{◌≡◌, sym}
use borrow.Author.Rules.{rules}
use Rattle.refusals.specs.declared.Refusal.TheVariants.{Full}
use Rattle.refusals.proofs.Found.{passed_on}
use Rattle.noting.proofs.Lining.{foreseen_line, fits_line, line_refused, line_full, line_done}
use Rattle.noting.proofs.command_in.Goals as goal

pub returns-in_err-a : goal.returns-in_err-a
returns-in_err-a c =
    let a = c.args in
    let v = c.in_err-a.ensures in
    let f = foreseen_line a.state.now c.requires.state_value a.line.now _ v.value in
    rw (passed_on c.from_residual.result _ c.from_residual.ensures.1)
    (line_refused a.state.now a.area.now a.line.now a.out.now c.requires.in_bounds c.told-area _ f v.refused)

pub keep-requires : goal.keep-requires
keep-requires c = let v = c.in_ok-a.ensures in fits_line c.args.line.now _ v.value v.refused

pub returns-in_err-map_err : goal.returns-in_err-map_err
returns-in_err-map_err c =
    let a = c.args in
    let v = c.in_ok-a.ensures in
    let f = foreseen_line a.state.now c.requires.state_value a.line.now _ v.value in
    let why : c.in_err-map_err.field-0.0 ≡ Full = search rules in
    rw (passed_on c.from_residual-in_err-map_err.result _ c.from_residual-in_err-map_err.ensures.1, why)
    (line_full a.state.now a.area.now a.line.now a.out.now c.requires.in_bounds c.told-area _ f v.refused _ _ c.keep.ensures (sym c.in_err-map_err.ensures.variant))

pub returns : goal.returns
returns c =
    let a = c.args in
    let v = c.in_ok-a.ensures in
    let f = foreseen_line a.state.now c.requires.state_value a.line.now _ v.value in
    let done = c.command_in.ensures in
    line_done a.state.now a.area.now a.line.now a.out.now c.requires.in_bounds c.told-area _ f v.refused _ _ c.keep.ensures (sym c.in_ok-map_err.ensures.variant) _ _ _ done.says done.written
