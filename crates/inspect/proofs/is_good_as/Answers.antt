-- `inspect::is_good_as` meets its contract. Assumes nothing.
use mathlib.Core.Path.{◌∙◌}
use Rattle.inspect.proofs.Judged.{wrong_length, wrong_version, right_head}
use Rattle.inspect.proofs.is_good_as.Goals as goal

pub returns-then-s-size : goal.returns-then-s-size
returns-then-s-size c = let x = c.args in wrong_length x.size x.version x.s.now c.if-s-size.true

pub returns-then-s-version : goal.returns-then-s-version
returns-then-s-version c = let x = c.args in wrong_version x.size x.version x.s.now c.if-s-version.true

pub returns : goal.returns
returns c =
    let x = c.args in
    c.all.ensures ∙ right_head x.size x.version x.s.now c.if-s-size.false c.if-s-version.false
