-- `lines::typed_line` meets its contract. Assumes nothing.
use mathlib.Core.Path.{sym}
use native.Mathlib.Omega.{arith}
use Rattle.rows.proofs.Reading.{begins_place}
use Rattle.lines.proofs.Doing.{done_wrong, done_call, typed_none, typed_some}
use Rattle.lines.proofs.typed_line.Goals as goal

pub returns-then-not-begins : goal.returns-then-not-begins
returns-then-not-begins c = done_wrong (typed_none c.args.line.now (sym c.if-not-begins.ensures))

pub types-requires-clause-line_len : goal.types-requires-clause-line_len
types-requires-clause-line_len c = let h = begins_place 32 c.args.line.now 1 (sym c.if-not-begins.ensures) in (omega arith, c.requires.line_len_bound)

pub returns : goal.returns
returns c = done_call (typed_some c.args.line.now (sym c.if-not-begins.ensures)) c.types.ensures
