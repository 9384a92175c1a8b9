-- `outcome::fail_both` meets its contract. Assumes nothing.
use Rattle.services.specs.Services.{index_of}
use Rattle.services.proofs.Services.{four}
use Rattle.backoff.proofs.Backoffs.{wait_fits}
use Rattle.outcome.proofs.Outcomes.{fails_both}
use Rattle.outcome.proofs.fail_both.Goals as goal

pub back-requires : goal.back-requires
back-requires c = λ e. wait_fits c.args.s.now c.requires.s_value c.args.t c.requires.t_le_highest_time 0 c.wait-first.ensures

pub back-requires-2 : goal.back-requires-2
back-requires-2 c = λ e. wait_fits c.args.s.now c.requires.s_value c.args.t c.requires.t_le_highest_time 1 c.wait-other.ensures

pub returns : goal.returns
returns c =
    let a = c.failing-a in
    let w = c.wait-first in
    let v = c.wait-other in record {
      value = a.ensures;
      s_after = fails_both c.args.s.now c.requires.s_value c.args.t (index_of c.args.service) (four c.args.service) a.result.number c.args.m
          w.result v.result w.ensures v.ensures c.over.ensures c.back.ensures c.back-2.ensures;
    }
