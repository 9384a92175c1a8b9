-- `outcome::fail` meets its contract. Assumes nothing.
use mathlib.Core.Path.{◌≡◌, ap, ◌∙◌}
use mathlib.Core.Bool.{true}
use Prim.Native.Nat.{ℕ}
use lib.Dec.{eqb}
use Rattle.rules.specs.declared.Answer.{Answer}
use Rattle.rules.specs.Rules.{wait}
use Rattle.rules.proofs.Checks.{failed_wait}
use Rattle.services.specs.Services.{index_of}
use Rattle.services.proofs.Services.{four}
use Rattle.buffer.specs.Layout.{facts_of}
use Rattle.backoff.proofs.Backoffs.{end_fits}
use Rattle.outcome.proofs.Outcomes.{fails}
use Rattle.outcome.proofs.fail.Goals as goal

pub back-requires : goal.back-requires
back-requires c =
    let a = c.failing-a in
    end_fits c.args.s.now c.requires.s_value c.args.t (index_of c.args.service) c.args.n a.result a.ensures c.requires.t_le_highest_time

pub returns : goal.returns
returns c =
    let i : ℕ = index_of c.args.service in
    let a = c.failing-a in
    let long : eqb a.result.number 20 ≡ true → a.result.second ≡ wait (facts_of c.args.s.now) i =
    λ e. ap (λ (y : Answer). y.second) a.ensures ∙ failed_wait (facts_of c.args.s.now) i c.args.n (rw (← a.ensures) e) in record {
      value = a.ensures;
      s_after = fails c.args.s.now c.requires.s_value c.args.t i (four c.args.service) a.result.number c.args.m a.result.second long
          c.over.ensures c.back.ensures;
    }
