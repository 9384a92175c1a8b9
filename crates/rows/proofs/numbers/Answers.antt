-- `rows::numbers` meets its contract: what is left to read answers for the whole. Assumes nothing.
use Rattle.std.proofs.Common.{ℕ, ◌+◌, ◌-◌, ◌≡◌, List, [], ◌∷◌, ◌++◌, length, take, drop, sym, ap, ◌∙◌, arith}
use Prim.Native.Nat.{suc}
use lib.ListN.{length-set}
use lib.Seq.{drop-drop}
use Rattle.rows.specs.Rows.{row, numbers}
use Rattle.rows.proofs.Reading.{numbers_full, numbers_none, numbers_last, numbers_more, take_more}
use Rattle.rows.proofs.numbers.Goals as goal

pub returns-in_err-value : goal.returns-in_err-value
returns-in_err-value c =
    let e : length c.loop-n.out ≡ length c.args.out.now = omega arith in
    rw c.from_residual.ensures (rw (← e) (sym (numbers_none _ _ _ _ _ (sym c.in_err-value.ensures.0)) ∙ c.loop-n.invariant (suc (length c.loop-n.out - c.loop-n.n - 1)) (omega arith)), tt)

pub returns-then-not-begins : goal.returns-then-not-begins
returns-then-not-begins c =
    let b = c.loop-n in
    let v = c.in_ok-value.field-0.value in
    let next = c.in_ok-value.field-0.next in
    let a = c.args in
    let e : length b.out ≡ length a.out.now = omega arith in (
      ap (λ (l : List ℕ). row l (drop next a.line.now)) (take_more b.out b.n v (omega arith))
          ∙ (sym (numbers_last _ _ _ _ _ _ _ (sym c.in_ok-value.ensures.0) (sym c.if-not-begins.ensures))
          ∙ (b.invariant (suc (length b.out - b.n - 1)) (omega arith) ∙ ap (λ (m : ℕ). numbers a.sep a.most m (drop a.at a.line.now) []) e)),
      (omega arith, omega arith, c.in_ok-value.ensures.1),
    )

pub loop-n-preserved : goal.loop-n-preserved
loop-n-preserved c =
    let b = c.loop-n in
    let v = c.in_ok-value.field-0.value in
    let next = c.in_ok-value.field-0.next in
    let a = c.args in
    simp length-set (λ k e. ap (numbers a.sep a.most k (drop (next + 1) a.line.now)) (take_more b.out b.n v (omega arith))
    ∙ (ap (λ (r : List ℕ). numbers a.sep a.most k r (take b.n b.out ++ (v ∷ []))) (sym (drop-drop 1 next a.line.now))
    ∙ (sym (numbers_more _ _ _ _ k _ _ (sym c.in_ok-value.ensures.0) (sym c.if-not-begins.ensures))
    ∙ b.invariant (suc k) (omega arith))))

pub returns : goal.returns
returns c =
    let e : length c.loop-n.out ≡ length c.args.out.now = omega arith in
    (rw (← e) (sym (numbers_full _ _ _ _) ∙ c.loop-n.invariant 0 (omega arith)), tt)
