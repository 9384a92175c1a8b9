-- `records::spell_line` meets its contract. Assumes nothing.
use mathlib.Core.Path.{refl}
use lib.ListN.{replicate}
use Rattle.records.proofs.Writing.{spelling_line}
use Rattle.records.proofs.spell_line.Goals as goal

pub returns : goal.returns
returns c = spelling_line c.args.line.now c.args.a (replicate 128 0) _ _ refl _ c.requires c.put_numbers.ensures c.put_bytes.ensures c.put_numbers-2.ensures
