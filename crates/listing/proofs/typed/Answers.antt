-- `listing::typed` meets its contract. Assumes nothing.
use mathlib.Core.Path.{sym, ◌∙◌}
use Prim.Native.Nat.{◌≤◌, ◌+◌, ◌-◌}
use native.Mathlib.Omega.{arith}
use lib.ListN.{take, drop}
use Rattle.listing.proofs.Reading.{too_long, taken_long, part_is, part_long, typed_some, typed_bad, typed_none}
use Rattle.listing.proofs.typed.Goals as goal
use Rattle.listing.proofs.typed.Goals.{else-is_typed-via-then-is_typed+else-takes, else-is_typed-via-else-is_typed}

pub returns-then-n-gt96 : goal.returns-then-n-gt96
returns-then-n-gt96 c =
    let n = c.size-n in
    record { out_after = too_long c.args.rec.now c.requires n.result n.ensures (omega (arith, c.if-n-gt96.true)); result_bound = omega arith }

pub typed_line-requires : goal.typed_line-requires
typed_line-requires c =
    let r = c.args.rec.now in
    let n = c.size-n.result in
    let few : n ≤ 96 = omega (arith, c.if-n-gt96.false) in
    let long = part_long r n c.told-rec few in
    let some = taken_long (take (5 + n - 5) (drop 5 r)) (sym c.takes.ensures ∙ c.if-takes.true) in
    (some, omega arith)

pub returns-then-takes : goal.returns-then-takes
returns-then-takes c =
    let r = c.args.rec.now in
    let n = c.size-n in
    let a = c.answer-a in
    let few : n.result ≤ 96 = omega (arith, c.if-n-gt96.false) in
    record { out_after = typed_some r c.requires n.result n.ensures few _ (part_is r n.result) (part_long r n.result c.told-rec few) a.result a.ensures (sym c.is_typed.ensures ∙ c.if-is_typed.true) (sym c.takes.ensures ∙ c.if-takes.true) c.typed_line.ensures.out_after; result_bound = c.typed_line.ensures.upper_bound }

pub returns-else-is_typed-clause-out_after : goal.returns-else-is_typed-clause-out_after
returns-else-is_typed-clause-out_after c =
    let r = c.args.rec.now in
    let n = c.size-n in
    let a = c.answer-a in
    let few : n.result ≤ 96 = omega (arith, c.if-n-gt96.false) in
    let long = part_long r n.result c.told-rec few in
    elim c.else-is_typed.branch [
      | else-is_typed-via-then-is_typed+else-takes w ↦ typed_bad r c.requires n.result n.ensures few _ (part_is r n.result) long a.result a.ensures (sym c.is_typed.ensures ∙ w.if-is_typed.true) (sym w.takes.ensures ∙ w.if-takes.false)
      | else-is_typed-via-else-is_typed w ↦ typed_none r c.requires n.result n.ensures few _ (part_is r n.result) long a.result a.ensures (sym c.is_typed.ensures ∙ w.if-is_typed.false)
    ]
