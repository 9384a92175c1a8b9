-- `turn::answer` meets its contract. Assumes nothing.
use mathlib.Core.Path.{refl}
use Rattle.turn.proofs.Turning.{not_so_long, refused, turned_over}
use Rattle.turn.proofs.answer.Goals as goal

pub returns-then-bytes : goal.returns-then-bytes
returns-then-bytes c = not_so_long c.args.bytes.now c.if-bytes.true

pub returns-then-refused : goal.returns-then-refused
returns-then-refused c =
    refused c.args.bytes.now c.if-bytes.false c.read.ensures c.turn-refused.ensures refl c.if-refused.true

pub returns : goal.returns
returns c =
    turned_over c.args.bytes.now c.if-bytes.false c.read.ensures c.turn-refused.ensures c.if-refused.false c.write.ensures
