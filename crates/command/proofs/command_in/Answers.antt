-- `command::command_in` meets its contract. Assumes nothing.
use mathlib.Core.Path.{refl, ap, ◌∙◌}
use Rattle.std.specs.Prelude.{Some}
use Rattle.at.specs.declared.Order.{Order}
use Rattle.at.specs.Order.{line_of}
use Rattle.at.specs.Lines.{read_line}
use Rattle.at.proofs.ReadLaws.{told}
use Rattle.command.proofs.Lined.{did_query, did_nfm, did_nfm_start, did_intervals, did_bad}
use Rattle.command.proofs.command_in.Goals as goal

pub returns-in-Some-Query-clause-says : goal.returns-in-Some-Query-clause-says
returns-in-Some-Query-clause-says c =
    let a = c.args in
    rw c.wrote.ensures (did_query a.s.now c.requires.s_value a.line.now a.out.now (told _ (read_line a.line.now) c.in-Some-Query.ensures ∙ ap (λ (o : Order). line_of (Some o)) c.in-Some-Query.field-0-is) c.show.ensures).0

pub returns-in-Some-Nfm-clause-says : goal.returns-in-Some-Nfm-clause-says
returns-in-Some-Nfm-clause-says c =
    let a = c.args in
    rw c.wrote-in-Some-Nfm.ensures
    (did_nfm a.s.now c.requires.s_value a.line.now a.out.now _ (told _ (read_line a.line.now) c.in-Some-Nfm.ensures ∙ ap (λ (o : Order). line_of (Some o)) c.in-Some-Nfm.field-0-is) refl c.turn.ensures c.okay.ensures).0

pub returns-in-Some-NfmStart-clause-says : goal.returns-in-Some-NfmStart-clause-says
returns-in-Some-NfmStart-clause-says c =
    let a = c.args in
    rw c.wrote-in-Some-NfmStart.ensures
    (did_nfm_start a.s.now c.requires.s_value a.line.now a.out.now _ _ (told _ (read_line a.line.now) c.in-Some-NfmStart.ensures ∙ ap (λ (o : Order). line_of (Some o)) c.in-Some-NfmStart.field-0-is) c.turn-in-Some-NfmStart.ensures c.okay-in-Some-NfmStart.ensures).0

pub returns-in-Some-Intervals-clause-says : goal.returns-in-Some-Intervals-clause-says
returns-in-Some-Intervals-clause-says c =
    let a = c.args in
    rw c.wrote-in-Some-Intervals.ensures
    (did_intervals a.s.now c.requires.s_value a.line.now a.out.now _ (told _ (read_line a.line.now) c.in-Some-Intervals.ensures ∙ ap (λ (o : Order). line_of (Some o)) c.in-Some-Intervals.field-0-is) c.schedule.ensures c.okay-in-Some-Intervals.ensures).0

pub returns-in-None-clause-says : goal.returns-in-None-clause-says
returns-in-None-clause-says c =
    let a = c.args in
    (did_bad a.s.now c.requires.s_value a.line.now a.out.now (told _ (read_line a.line.now) c.in-None.ensures)).0

pub returns-in-None-clause-written : goal.returns-in-None-clause-written
returns-in-None-clause-written c =
    let a = c.args in
    (did_bad a.s.now c.requires.s_value a.line.now a.out.now (told _ (read_line a.line.now) c.in-None.ensures)).1
