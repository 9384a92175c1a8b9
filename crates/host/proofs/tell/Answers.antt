-- `host::tell` meets its contract. Assumes nothing.
use Rattle.host.proofs.Telling.{told}
use Rattle.host.proofs.tell.Goals as goal

pub returns : goal.returns
returns g c =
    let held = g.W.Write.contents in
    let a = c.write_all-named in
    let b = c.write_all-parted in
    let t = c.write_all-told in
    let e = c.write_all-ended in
    rw (c.and-3.ensures, c.and-2.ensures, c.and.ensures)
    (told (held c.args.to.now) (held a.new.self) (held b.new.self) (held t.new.self) (held e.new.self) a.result b.result t.result e.result c.args.what.now c.without_number.result.now a.ensures.bytes b.ensures.bytes t.ensures.bytes e.ensures.bytes)
