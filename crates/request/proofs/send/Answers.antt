-- `request::send` meets its contract. Assumes nothing.
use mathlib.Core.Path.{refl}
use Rattle.request.proofs.Acting.{stood_shape, sent_reset, sent_other}
use Rattle.request.proofs.send.Goals as goal

pub list-requires : goal.list-requires
list-requires c = stood_shape c.args.s.now c.args.q c.stand.ensures c.requires

pub returns-then-q-eq5 : goal.returns-then-q-eq5
returns-then-q-eq5 c =
    let a = c.args in
    sent_reset a.s.now a.q a.t c.stand.ensures c.list.ensures c.if-q-eq5.true refl

pub returns-else-q-eq5 : goal.returns-else-q-eq5
returns-else-q-eq5 c =
    let a = c.args in
    sent_other a.s.now a.q a.t c.stand.ensures c.list.ensures c.if-q-eq5.false
