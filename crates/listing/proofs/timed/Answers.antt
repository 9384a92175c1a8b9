-- `listing::timed` meets its contract. Assumes nothing.
use mathlib.Core.Path.{sym, ap, ◌∙◌}
use Prim.Native.Nat.{ℕ}
use native.Mathlib.Omega.{arith}
use lib.ListN.{get_or}
use Rattle.listing.proofs.Reading.{timed_some, timed_none}
use Rattle.records.specs.Records.{numbers_in}
use Rattle.calls.proofs.Letters.{many_few}
use Rattle.listing.proofs.timed.Goals as goal

pub numbers-requires : goal.numbers-requires
numbers-requires c =
    let h = many_few (get_or c.args.rec.now 0 0) in
    let many = c.requires.v_len.0 in
    omega arith

pub answer-a-requires : goal.answer-a-requires
answer-a-requires c =
    let h = many_few (get_or c.args.rec.now 0 0) in
    let many = c.requires.v_len.0 in
    omega (arith, c.numbers.auto)

pub is_timed-requires : goal.is_timed-requires
is_timed-requires c =
    let h = many_few (get_or c.args.rec.now 0 0) in
    let many = c.requires.v_len.0 in
    omega (arith, c.numbers.auto)

pub timed_line-requires : goal.timed_line-requires
timed_line-requires c =
    let h = many_few (get_or c.args.rec.now 0 0) in
    let many = c.requires.v_len.0 in
    omega (arith, c.numbers.auto)

pub returns-then-is_timed : goal.returns-then-is_timed
returns-then-is_timed c =
    let r = c.args.rec.now in
    let n = c.numbers in
    let a = c.answer-a in
    let many = c.requires.v_len.0 in
    record { out_after = timed_some r c.requires.rec_nonzero c.requires.v_len.1 _ (n.ensures ∙ ap (λ (k : ℕ). numbers_in k r) many) (omega (arith, n.auto)) a.result a.ensures (sym c.is_timed.ensures ∙ c.if-is_timed.true) c.timed_line.ensures.out_after; result_bound = c.timed_line.ensures.upper_bound }

pub returns-else-is_timed : goal.returns-else-is_timed
returns-else-is_timed c =
    let r = c.args.rec.now in
    let n = c.numbers in
    let a = c.answer-a in
    let many = c.requires.v_len.0 in
    record { out_after = timed_none r c.requires.rec_nonzero c.requires.v_len.1 _ (n.ensures ∙ ap (λ (k : ℕ). numbers_in k r) many) (omega (arith, n.auto)) a.result a.ensures (sym c.is_timed.ensures ∙ c.if-is_timed.false); result_bound = omega arith }
