-- `clock::passed` meets its contract. Assumes nothing.
use Rattle.clock.proofs.Leaking.{rate_low}
use Rattle.clock.proofs.passed.Goals as goal

pub gone-requires : goal.gone-requires
gone-requires c = rate_low c.args.s.now c.requires.s_value c.args.i c.requires.i_bound
