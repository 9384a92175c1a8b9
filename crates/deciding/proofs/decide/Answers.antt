-- `deciding::decide` meets its contract. Assumes nothing.
use mathlib.Core.Path.{sym, ap, ◌∙◌}
use Rattle.rules.specs.declared.Event.TheVariants.{Ask as ask}
use Rattle.rules.specs.Calls.{timed}
use Rattle.rules.specs.Rules.{refused}
use Rattle.rules.proofs.Checks.{on_time}
use Rattle.refusals.proofs.Found.{passed_on, err_told, err_refused}
use Rattle.buffer.specs.Layout.{facts_of, view}
use Rattle.deciding.proofs.Deciding.{first_passes, ask_waits, ask_goes}
use Rattle.deciding.proofs.decide.Goals as goal

pub returns-in_err-refusal-clause-value : goal.returns-in_err-refusal-clause-value
returns-in_err-refusal-clause-value c =
    let x = c.args in
    let why = c.in_err-refusal.field-0.0 in
    rw (passed_on c.from_residual.result why c.from_residual.ensures.1) (err_told (view x.s.now) (timed x.t (ask x.q)) why c.in_err-refusal.ensures)

pub returns-in_err-refusal-clause-refused : goal.returns-in_err-refusal-clause-refused
returns-in_err-refusal-clause-refused c =
    let x = c.args in
    let why = c.in_err-refusal.field-0.0 in
    rw (passed_on c.from_residual.result why c.from_residual.ensures.1) (err_refused (facts_of x.s.now) (timed x.t (ask x.q)) why c.in_err-refusal.ensures)

pub returns-in-Some-clause-value : goal.returns-in-Some-clause-value
returns-in-Some-clause-value c =
    let x = c.args in
    ask_waits (view x.s.now) x.t x.q c.in_ok-refusal.ensures c.left.result c.left.ensures c.in-Some.wait c.in-Some.is

pub first_block-requires-clause-s_bound : goal.first_block-requires-clause-s_bound
first_block-requires-clause-s_bound c =
    on_time (facts_of c.args.s.now) c.args.t (ask c.args.q) (sym c.in_ok-refusal.ensures)

pub returns-clause-value : goal.returns-clause-value
returns-clause-value c =
    let x = c.args in
    c.unwrap_or.ensures ∙ c.first_block.ensures ∙ ask_goes (view x.s.now) x.t x.q c.in_ok-refusal.ensures c.left.result c.left.ensures c.in_default.is

pub returns-clause-refused : goal.returns-clause-refused
returns-clause-refused c =
    let x = c.args in
    ap refused (c.unwrap_or.ensures ∙ c.first_block.ensures) ∙ first_passes (view x.s.now) x.t x.q
