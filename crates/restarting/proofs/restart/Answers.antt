-- `restarting::restart` meets its contract. Assumes nothing.
use Rattle.restarting.proofs.Recovering.{restart_area, restart_state, restart_image, restart_refused, restart_done}
use Rattle.restarting.proofs.restart.Goals as goal

pub returns-in_default : goal.returns-in_default
returns-in_default c =
    let o = c.args in
    rw c.into.ensures (restart_area o.image.now o.area.now o.state.now c.in_default.ensures.cases)

pub returns-in_default-as_mut_array : goal.returns-in_default-as_mut_array
returns-in_default-as_mut_array c =
    let o = c.args in
    let a = c.in-Some.ensures.cases in
    rw (c.into-in_default-as_mut_array.ensures, a.same) (restart_state o.image.now o.area.now o.state.now a.long c.in_default-as_mut_array.ensures.cases)

pub returns-in_default-good : goal.returns-in_default-good
returns-in_default-good c =
    let o = c.args in
    let a = c.in-Some.ensures.cases in
    let s = c.in-Some-as_mut_array.ensures.cases in
    rw (c.into-in_default-good.ensures, a.same, s.same) (restart_image o.image.now o.area.now o.state.now a.long s.long c.in_default-good.ensures)

pub returns-then-not-recover : goal.returns-then-not-recover
returns-then-not-recover c =
    let o = c.args in
    let a = c.in-Some.ensures.cases in
    let s = c.in-Some-as_mut_array.ensures.cases in
    let i = c.in-Some-good.ensures in
    let r = c.recover in
    rw (c.into-then-not-recover.ensures, s.same)
    (restart_refused o.image.now o.area.now o.state.now a.long s.long i.0 r.result r.new.state r.new.area (rw (a.same, i.1) at r.ensures) c.if-not-recover.true)

pub returns : goal.returns
returns c =
    let o = c.args in
    let a = c.in-Some.ensures.cases in
    let s = c.in-Some-as_mut_array.ensures.cases in
    let i = c.in-Some-good.ensures in
    let r = c.recover in
    restart_done o.image.now o.area.now o.state.now a.long s.long i.0 r.result r.new.state r.new.area (rw (a.same, i.1) at r.ensures) c.if-not-recover.false
