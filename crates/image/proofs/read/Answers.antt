-- `image::read` meets its contract: what was read, and the numbers of the bytes that are left, are
-- all the numbers. Assumes nothing.
use Rattle.std.proofs.Common.{arith}
use Rattle.image.proofs.Imaging.{read_next, read_end}
use Rattle.image.proofs.read.Goals as goal

pub loop-i-preserved : goal.loop-i-preserved
loop-i-preserved c =
    let l = c.loop-i in
    read_next c.args.bytes.now l.numbers l.i l.invariant _ _ (omega arith) (omega arith) c.as_chunks.ensures.front c.number.ensures

pub returns : goal.returns
returns c = let l = c.loop-i in read_end c.args.bytes.now l.numbers l.i l.invariant (omega arith) (omega arith)
