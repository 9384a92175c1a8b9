-- `answering::one` meets its contract. Assumes nothing.
use native.Mathlib.Omega.{arith}
use Rattle.lines.specs.Line.{print_of, printed_wrong}
use Rattle.lines.proofs.Staying.{stays_good}
use Rattle.answering.proofs.Cutting.{room_left, told_line, line_counted, line_written}
use Rattle.answering.proofs.one.Goals as goal

pub returns-then-skip-clause-out_after : goal.returns-then-skip-clause-out_after
returns-then-skip-clause-out_after c =
    let a = c.args in
    let w = c.wrong.ensures in
    told_line a.out.now c.wrong.new.out printed_wrong a.«fill» c.wrong.result a.skip a.line.now a.state.now (omega arith) w.0 w.1 (rw c.if-skip.true)

pub returns-then-known-clause-fill_bound : goal.returns-then-known-clause-fill_bound
returns-then-known-clause-fill_bound c =
    let a = c.args in
    let w = c.answer_in.ensures in
    (omega (arith, w.upper_bound), λ _. stays_good a.state.now a.line.now _ _ _ _ w.line_says (c.requires.known c.if-known.true))

pub returns-then-known-clause-out_after : goal.returns-then-known-clause-out_after
returns-then-known-clause-out_after c =
    let a = c.args in
    let w = c.answer_in.ensures.line_says in
    let h = room_left a.out.now a.«fill» (omega arith) in
    told_line a.out.now c.answer_in.new.out (print_of a.state.now a.line.now) a.«fill» c.answer_in.result a.skip a.line.now a.state.now (omega arith) (line_written h w) (line_counted h w) (rw c.if-skip.false)

pub returns-clause-out_after : goal.returns-clause-out_after
returns-clause-out_after c =
    let a = c.args in
    let w = c.answer.ensures.line_says in
    let h = room_left a.out.now a.«fill» (omega arith) in
    told_line a.out.now c.answer.new.out (print_of a.state.now a.line.now) a.«fill» c.answer.result a.skip a.line.now a.state.now (omega arith) (line_written h w) (line_counted h w) (rw c.if-skip.false)
