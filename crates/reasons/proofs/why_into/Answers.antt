-- `reasons::why_into` meets its contract. Assumes nothing.
use native.Mathlib.Omega.{arith}
use Rattle.reasons.proofs.Room.{room_other, room_refused, room_said}
use Rattle.reasons.proofs.why_into.Goals as goal

pub returns-then-times-ne8 : goal.returns-then-times-ne8
returns-then-times-ne8 c = let a = c.args in rw c.into.ensures (room_other a.state.now a.time a.kind a.times.now c.if-times-ne8.true)

pub returns-then-found-ne0 : goal.returns-then-found-ne0
returns-then-found-ne0 c =
    let a = c.args in
    room_refused a.state.now a.time a.kind a.times.now c.if-times-ne8.false c.why-found.result c.why-found.ensures c.if-found-ne0.true

pub returns : goal.returns
returns c =
    let a = c.args in
    room_said a.state.now a.time a.kind a.times.now c.if-times-ne8.false c.why-found.result c.why-found.ensures (omega arith) c.copy_from_slice.ensures.after
