-- `trace::arrived` meets its contract. Assumes nothing.
use mathlib.Core.Path.{◌≡◌, refl, sym, ◌∙◌}
use native.Mathlib.Omega.{arith}
use borrow.Author.Tests.{ne_eqb}
use Rattle.text.proofs.Choice.{absurd_bool}
use Rattle.trace.proofs.Turning.{turn_ends, turn_goes}
use Rattle.trace.proofs.arrived.Goals as goal

pub returns-then-ended : goal.returns-then-ended
returns-then-ended c =
    let x = c.args in
    let z : x.n ≡ 0 = omega (arith, c.if-ended.true) in
    record { held_bound = (omega arith, λ e. absurd_bool e); more_value = rw z; turned = turn_ends x.c.skip x.c.held x.n x.buf.now x.state.now _ z c.finish-fill.ensures.state_after _ _ refl }

pub keep-requires : goal.keep-requires
keep-requires c = let a = c.all-left.ensures in (a.start_bound.0, omega (arith, a.start_bound.1.0, c.requires.n_in_bounds))

pub returns : goal.returns
returns c =
    let x = c.args in
    let a = c.all-left in
    let k = c.keep.ensures in
    let h = k.held_bound.1 in
    record {
      held_bound = (k.held_bound.0, rw h.0 a.ensures.start_bound.1.1);
      more_value = rw (ne_eqb x.n 0 c.if-ended.false) (h.1.0 ∙ sym h.1.1);
      turned = turn_goes x.c.skip x.c.held _ x.buf.now x.state.now _ a.result a.ensures.answered c.keep.result _ h.1.0 h.1.1 k.kept;
    }
