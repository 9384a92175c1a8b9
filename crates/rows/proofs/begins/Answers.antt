-- `rows::begins` meets its contract. Assumes nothing.
use mathlib.Core.Path.{refl, ◌∙◌}
use Rattle.rows.proofs.Reading.{looked_up}
use Rattle.rows.proofs.begins.Goals as goal

pub returns : goal.returns
returns c = c.eq.ensures ∙ looked_up c.args.x c.args.line.now c.args.at _ _ c.get.ensures.lookup.3 refl
