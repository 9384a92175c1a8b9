-- `answering::next` meets its contract. Assumes nothing.
use Prim.Native.Nat.{◌-◌}
use lib.ListN.{take, drop}
use Rattle.answering.proofs.Cutting.{part_slice, goes_on, ends_line}
use Rattle.answering.proofs.next.Goals as goal

pub returns-then-buf-p-ne10-clause-cut : goal.returns-then-buf-p-ne10-clause-cut
returns-then-buf-p-ne10-clause-cut c =
    let a = c.args in
    let h = c.requires.start_bound in
    goes_on a.buf.now a.end a.p a.state.now a.out.now h.0 h.1.0 h.1.1 c.if-buf-p-ne10.true a.p.known a.p.sent

pub returns-clause-cut : goal.returns-clause-cut
returns-clause-cut c =
    let a = c.args in
    let h = c.requires.start_bound in
    let o = c.one-fill in
    ends_line a.buf.now a.end a.p a.state.now a.out.now h.0 h.1.0 h.1.1 c.if-buf-p-ne10.false o.result.«fill» o.result.known a.p.sent (take (a.p.place - a.p.«start») (drop a.p.«start» a.buf.now)) o.new.state o.new.out (part_slice a.p.«start» a.p.place a.buf.now) o.ensures.out_after o.ensures.state_after
