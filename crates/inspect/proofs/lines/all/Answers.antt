-- `inspect::lines::all` meets its contract. Assumes nothing.
use mathlib.Core.Path.{◌∙◌}
use Rattle.buffer.proofs.Tests.{both, no_of, yes_of}
use Rattle.inspect.proofs.Judged.{wrong_counts, few_intervals, short_lists, all_lines}
use mathlib.Core.Path.{ap}
use mathlib.Core.Bool.{not}
use Rattle.inspect.proofs.lines.all.Goals as goal

pub returns-then-not-counted : goal.returns-then-not-counted
returns-then-not-counted c = wrong_counts c.args.s.now (no_of c.counted.ensures (ap not c.if-not-counted.true))

pub scheduled-requires : goal.scheduled-requires
scheduled-requires c =
    record { in_bounds = c.requires; s_bound = few_intervals c.args.s.now (yes_of c.counted.ensures (ap not c.if-not-counted.false)) }

pub listed-requires : goal.listed-requires
listed-requires c =
    record { in_bounds = c.requires; s_value = short_lists c.args.s.now (yes_of c.counted.ensures (ap not c.if-not-counted.false)) }

pub returns : goal.returns
returns c =
    both (both (both (both c.headed.ensures c.scheduled.ensures) c.small.ensures) c.served.ensures) c.listed.ensures
    ∙ all_lines c.args.s.now (yes_of c.counted.ensures (ap not c.if-not-counted.false))
