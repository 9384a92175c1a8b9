-- `records::spell` meets its contract. Assumes nothing.
use mathlib.Core.Path.{refl}
use lib.ListN.{replicate}
use Rattle.records.proofs.Writing.{spelling}
use Rattle.records.proofs.spell.Goals as goal

pub returns : goal.returns
returns c = spelling c.args.v.now c.args.a (replicate 128 0) _ _ refl c.args.x c.requires c.put_numbers.ensures c.put_numbers-2.ensures
