-- `backoff::wait` meets its contract. Assumes nothing.
use mathlib.Core.Path.{ap, ◌∙◌}
use native.Mathlib.Omega.{arith}
use Rattle.rules.specs.Rules.{wait}
use Rattle.buffer.specs.Layout.{facts_of}
use Rattle.buffer.proofs.Sane.{imsi_low}
use Rattle.backoff.proofs.Backoffs.{base_range, failures_low, waits}
use Rattle.backoff.proofs.wait.Goals as goal

pub overflow_add-n-2 : goal.overflow_add-n-2
overflow_add-n-2 c = omega (arith, failures_low c.args.s.now c.requires c.index.result c.index.ensures.bound)

pub draw-requires : goal.draw-requires
draw-requires c = imsi_low c.args.s.now c.requires c.imsi.ensures

pub spread_out-requires : goal.spread_out-requires
spread_out-requires c = rw c.base.ensures (base_range c.args.s.now c.requires _)

pub returns : goal.returns
returns c =
    waits c.args.s.now c.index.result c.index.ensures.bound c.imsi.ensures c.spread_out.ensures c.base.ensures c.draw.ensures
    ∙ ap (wait (facts_of c.args.s.now)) c.index.ensures.value
