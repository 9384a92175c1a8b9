-- `outcome::reject` meets its contract. Assumes nothing.
use mathlib.Core.Path.{sym, ◌∙◌}
use Rattle.causes.proofs.Causes.{action_both}
use Rattle.outcome.proofs.Outcomes.{rejects}
use Rattle.services.specs.Services.{index_of}
use Rattle.outcome.proofs.reject.Goals as goal

pub returns-then-both : goal.returns-then-both
returns-then-both c =
    let a = c.args in
    let r = c.fail_both.ensures in
    let two = sym c.if-both.true ∙ c.both.ensures in
    let p = rejects a.s.now a.t (index_of a.service) a.cause a.second a.column (sym (action_both a.column a.cause a.second (sym two))) two c.mood-m.ensures r.value r.s_after in
    record { value = p.0; s_after = p.1 }

pub returns : goal.returns
returns c =
    let a = c.args in
    let r = c.fail.ensures in
    let two = sym c.if-both.false ∙ c.both.ensures in
    let p = rejects a.s.now a.t (index_of a.service) a.cause a.second a.column c.action.ensures two c.mood-m.ensures r.value r.s_after in
    record { value = p.0; s_after = p.1 }
