-- `lines::ending` meets its contract: each row follows on what the rows before it leave to be said.
-- Assumes nothing.
use mathlib.Core.Path.{◌≡◌, sym, ap, ◌∙◌}
use native.Mathlib.Omega.{arith}
use lib.ListN.{drop}
use Rattle.std.specs.Prelude.{Option}
use Rattle.rows.specs.Rows.{row_of}
use Rattle.rows.specs.declared.Span.{Span}
use Rattle.rows.proofs.Rows.{full_up_to}
use Rattle.lines.specs.Trace.{ending_of}
use Rattle.lines.specs.Held.{ending_by}
use Rattle.lines.proofs.Doing.{rated, parametered, no_parameters, other_parameters, first, no_rates, other_rates, second, no_limits, other_limits, not_ended, ending_all}
use Rattle.lines.proofs.ending.Goals.{then-last-ne2-via-then-last-ne2, then-last-ne2-via-else-last-ne2+then-last-line}
use Rattle.lines.proofs.ending.Goals as goal

pub returns-in_err-first : goal.returns-in_err-first
returns-in_err-first c =
    let a = c.args in
    let p = c.fields in
    ap ending_by c.from_residual.ensures ∙ no_parameters a.line.now p.new.out a.at p.result p.ensures.0 c.in_err-first.was

pub returns-then-first-ne6 : goal.returns-then-first-ne6
returns-then-first-ne6 c =
    let a = c.args in
    let p = c.fields in
    let s = c.in_ok-first in
    other_parameters a.line.now p.new.out a.at p.result p.ensures.0 s.first s.was (omega (arith, s.ensures.1)) c.if-first-ne6.true

pub returns-in_err-second : goal.returns-in_err-second
returns-in_err-second c =
    let a = c.args in
    let p = c.fields in
    let s = c.in_ok-first in
    let o : parametered p.new.out (drop s.first.next a.line.now) ≡ ending_of (drop a.at a.line.now)
    = first a.line.now p.new.out a.at p.result p.ensures.0 s.first s.was (omega (arith, s.ensures.1)) c.if-first-ne6.false (omega arith) in
    let q = c.fields-2 in
    ap ending_by c.from_residual-in_err-second.ensures ∙ no_rates a.line.now p.new.out q.new.out s.first.next q.result q.ensures.0 o c.in_err-second.was

pub returns-then-second-ne3 : goal.returns-then-second-ne3
returns-then-second-ne3 c =
    let a = c.args in
    let p = c.fields in
    let s = c.in_ok-first in
    let o : parametered p.new.out (drop s.first.next a.line.now) ≡ ending_of (drop a.at a.line.now)
    = first a.line.now p.new.out a.at p.result p.ensures.0 s.first s.was (omega (arith, s.ensures.1)) c.if-first-ne6.false (omega arith) in
    let q = c.fields-2 in
    let t = c.in_ok-second in
    other_rates a.line.now p.new.out q.new.out s.first.next q.result q.ensures.0 o t.second t.was (omega (arith, t.ensures.1)) c.if-second-ne3.true

pub returns-in_err-last : goal.returns-in_err-last
returns-in_err-last c =
    let a = c.args in
    let p = c.fields in
    let s = c.in_ok-first in
    let o : parametered p.new.out (drop s.first.next a.line.now) ≡ ending_of (drop a.at a.line.now)
    = first a.line.now p.new.out a.at p.result p.ensures.0 s.first s.was (omega (arith, s.ensures.1)) c.if-first-ne6.false (omega arith) in
    let q = c.fields-2 in
    let t = c.in_ok-second in
    let u : rated p.new.out q.new.out (drop t.second.next a.line.now) ≡ ending_of (drop a.at a.line.now)
    = second a.line.now p.new.out q.new.out s.first.next q.result q.ensures.0 o t.second t.was (omega (arith, t.ensures.1)) c.if-second-ne3.false (omega arith) in
    let n = c.fields-3 in
    ap ending_by c.from_residual-in_err-last.ensures ∙ no_limits a.line.now p.new.out q.new.out n.new.out t.second.next n.result n.ensures.0 u c.in_err-last.was

pub returns-then-last-ne2 : goal.returns-then-last-ne2
returns-then-last-ne2 c =
    let a = c.args in
    let p = c.fields in
    let s = c.in_ok-first in
    let o : parametered p.new.out (drop s.first.next a.line.now) ≡ ending_of (drop a.at a.line.now)
    = first a.line.now p.new.out a.at p.result p.ensures.0 s.first s.was (omega (arith, s.ensures.1)) c.if-first-ne6.false (omega arith) in
    let q = c.fields-2 in
    let t = c.in_ok-second in
    let u : rated p.new.out q.new.out (drop t.second.next a.line.now) ≡ ending_of (drop a.at a.line.now)
    = second a.line.now p.new.out q.new.out s.first.next q.result q.ensures.0 o t.second t.was (omega (arith, t.ensures.1)) c.if-second-ne3.false (omega arith) in
    let n = c.fields-3 in
    let l = c.in_ok-last in
    elim c.then-last-ne2.branch [
      | then-last-ne2-via-then-last-ne2 w ↦
          other_limits a.line.now p.new.out q.new.out n.new.out t.second.next n.result n.ensures.0 u l.last l.was (omega (arith, l.ensures.1)) w.if-last-ne2.true
      | then-last-ne2-via-else-last-ne2+then-last-line w ↦
          not_ended a.line.now p.new.out q.new.out n.new.out t.second.next n.result n.ensures.0 u l.last l.was (omega (arith, l.ensures.1)) w.if-last-ne2.false (omega arith) w.if-last-line.true
    ]

pub file-requires-clause-up_to : goal.file-requires-clause-up_to
file-requires-clause-up_to c =
    let a = c.args in
    let p = c.fields in
    let s = c.in_ok-first in
    full_up_to 44 255 (omega arith) 6 (drop a.at a.line.now) a.line.now p.new.out s.first (sym (ap (λ (r : Option Span). row_of a.line.now r p.new.out) s.was) ∙ p.ensures.0) (omega (arith, c.if-first-ne6.false))

pub file-requires-2-clause-up_to : goal.file-requires-2-clause-up_to
file-requires-2-clause-up_to c =
    let a = c.args in
    let q = c.fields-2 in
    let t = c.in_ok-second in
    full_up_to 44 255 (omega arith) 3 (drop c.in_ok-first.first.next a.line.now) a.line.now q.new.out t.second (sym (ap (λ (r : Option Span). row_of a.line.now r q.new.out) t.was) ∙ q.ensures.0) (omega (arith, c.if-second-ne3.false))

pub returns : goal.returns
returns c =
    let a = c.args in
    let p = c.fields in
    let s = c.in_ok-first in
    let o : parametered p.new.out (drop s.first.next a.line.now) ≡ ending_of (drop a.at a.line.now)
    = first a.line.now p.new.out a.at p.result p.ensures.0 s.first s.was (omega (arith, s.ensures.1)) c.if-first-ne6.false (omega arith) in
    let q = c.fields-2 in
    let t = c.in_ok-second in
    let u : rated p.new.out q.new.out (drop t.second.next a.line.now) ≡ ending_of (drop a.at a.line.now)
    = second a.line.now p.new.out q.new.out s.first.next q.result q.ensures.0 o t.second t.was (omega (arith, t.ensures.1)) c.if-second-ne3.false (omega arith) in
    let n = c.fields-3 in
    let l = c.in_ok-last in
    rw (c.file.ensures, c.file-2.ensures)
    (ending_all a.line.now p.new.out q.new.out n.new.out t.second.next n.result n.ensures.0 u l.last l.was (omega (arith, l.ensures.1)) c.if-last-ne2.false (omega arith) c.if-last-line.false)
