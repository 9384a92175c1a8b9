-- `image::write` meets its contract: what was written, and the image of the numbers that are left,
-- are the whole image. Assumes nothing.
use Rattle.std.proofs.Common.{arith, ◌∙◌}
use Rattle.image.proofs.Imaging.{write_next, write_end}
use Rattle.image.proofs.write.Goals as goal

pub loop-i-preserved : goal.loop-i-preserved
loop-i-preserved c =
    let l = c.loop-i in
    write_next c.args.numbers.now l.out l.i l.invariant _ (omega arith) (omega arith) (c.copy_from_slice.ensures.after ∙ c.four.ensures)

pub returns : goal.returns
returns c = let l = c.loop-i in write_end c.args.numbers.now l.out l.i l.invariant (omega arith) (omega arith)
