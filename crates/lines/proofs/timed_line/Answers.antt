-- `lines::timed_line` meets its contract. Assumes nothing.
use mathlib.Core.Path.{sym, ◌∙◌}
use native.Mathlib.Omega.{arith}
use Rattle.lines.proofs.Doing.{done_wrong, done_call, timed_none, timed_other, timed_more, timed_all}
use Rattle.lines.proofs.timed_line.Goals.{then-read-how_many-via-then-read-how_many, then-read-how_many-via-else-read-how_many+then-read-line}
use Rattle.lines.proofs.timed_line.Goals as goal

pub returns-in_err-read : goal.returns-in_err-read
returns-in_err-read c = let a = c.args in let f = c.fields in rw c.from_residual.ensures (done_wrong (timed_none a.x a.line.now f.new.out f.result f.ensures.0 c.in_err-read.was))

pub returns-then-read-how_many : goal.returns-then-read-how_many
returns-then-read-how_many c =
    let a = c.args in
    let f = c.fields in
    let r = c.in_ok-read in
    elim c.then-read-how_many.branch [
      | then-read-how_many-via-then-read-how_many w ↦
          done_wrong (timed_other a.x a.line.now f.new.out f.result f.ensures.0 r.read r.was (omega (arith, r.ensures.1)) (λ e. w.if-read-how_many.true (e ∙ sym c.how_many.ensures)))
      | then-read-how_many-via-else-read-how_many+then-read-line w ↦
          done_wrong (timed_more a.x a.line.now f.new.out f.result f.ensures.0 r.read r.was (omega (arith, r.ensures.1)) (w.if-read-how_many.false ∙ c.how_many.ensures) w.if-read-line.true)
    ]

pub returns : goal.returns
returns c =
    let a = c.args in
    let f = c.fields in
    let r = c.in_ok-read in
    done_call (timed_all a.x a.line.now f.new.out f.result f.ensures.0 r.read r.was (omega (arith, r.ensures.1)) (c.if-read-how_many.false ∙ c.how_many.ensures) c.if-read-line.false) (rw (c.new.ensures.0, c.new.ensures.1) at c.happens.ensures)
