-- `reasons::why_in` meets its contract. Assumes nothing.
use mathlib.Core.Path.{◌∙◌}
use Rattle.refusals.specs.Refusals.{number_of}
use Rattle.refusals.proofs.Found.{never_zero}
use Rattle.buffer.specs.Layout.{view}
use Rattle.reasons.proofs.Alone.{refused_said}
use Rattle.reasons.proofs.why_in.Goals as goal

pub returns-in-Err : goal.returns-in-Err
returns-in-Err c =
    let x = c.args in
    let why = c.in-Err.why in
    c.refused.ensures ∙ refused_said (view x.s.now) x.t x.q (number_of why) c.in-Err.ensures (never_zero why)
