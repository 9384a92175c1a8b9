-- `answering::keep` meets its contract. Assumes nothing.
use mathlib.Core.Path.{ap, ◌∙◌}
use mathlib.Core.List.{List}
use Prim.Native.Nat.{ℕ, ◌-◌}
use native.Mathlib.Omega.{arith}
use lib.ListN.{take}
use lib.Seq.{length-slice}
use Rattle.answering.proofs.Cutting.{kept_skipped, kept_over, kept_line, moved}
use Rattle.answering.proofs.keep.Goals.{then-p-via-then-p, then-p-via-else-p+then-rest-gt256}
use Rattle.answering.proofs.keep.Goals as goal

pub returns-then-p-clause-kept : goal.returns-then-p-clause-kept
returns-then-p-clause-kept c =
    let p = c.args.p in
    let buf = c.args.buf.now in
    elim c.then-p.branch [
      | then-p-via-then-p w ↦ kept_skipped buf p buf w.if-p.true
      | then-p-via-else-p+then-rest-gt256 w ↦ kept_over buf p buf w.if-p.false (omega (arith, length-slice p.«start» p.place buf c.requires.1, w.if-rest-gt256.true))
    ]

pub returns-clause-kept : goal.returns-clause-kept
returns-clause-kept c =
    let p = c.args.p in
    let buf : List ℕ = c.args.buf.now in
    let rest : ℕ = p.place - p.«start» in
    kept_line buf p _ c.if-p.false rest (ap (take rest) c.copy_within.ensures.after ∙ moved buf p.«start» p.place c.requires.0 c.requires.1)
