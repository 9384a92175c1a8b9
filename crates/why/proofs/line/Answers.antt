-- `why::line` meets its contract. Assumes nothing.
use mathlib.Core.Path.{◌≡◌, refl, sym, ap, ◌∙◌}
use mathlib.Core.List.{List, [], ◌∷◌, ◌++◌}
use Prim.Native.Nat.{ℕ, ◌+◌}
use native.Mathlib.Omega.{arith}
use lib.ListN.{length, set, length-set, length-append}
use lib.Seq.{sets}
use borrow.Author.Tests.{eq-eqb, ne_eqb}
use Rattle.text.specs.Printed.{print_num}
use Rattle.text.proofs.Putting.{sets_append, ten_digits}
use Rattle.why.proofs.line.Goals as goal

pub returns-then-not-stands : goal.returns-then-not-stands
returns-then-not-stands c = let e = c.if-not-stands.true in rw e (record { out_after = (refl, omega arith); upper_bound = omega arith })

pub put-next-requires : goal.put-next-requires
put-next-requires c = let h = ten_digits c.args.n (omega arith) in omega arith

pub bounds-out-next : goal.bounds-out-next
bounds-out-next c = let h = ten_digits c.args.n (omega arith) in omega (arith, c.put-next.ensures.1)

pub overflow_add-result : goal.overflow_add-result
overflow_add-result c = let h = ten_digits c.args.n (omega arith) in omega (arith, c.put-next.ensures.1)

pub shape_of-out-then-back_off : goal.shape_of-out-then-back_off
shape_of-out-then-back_off c = simp length-set (omega (arith, c.put-next.auto.out))

pub returns-then-back_off : goal.returns-then-back_off
returns-then-back_off c = let h = ten_digits c.args.n (omega arith) in let e = c.if-not-stands.false in let p = c.put-next.ensures in let q = c.put-next.result in let l : length (print_num c.args.n ++ (10 ∷ [])) ≡ length (print_num c.args.n) + 1 = length-append (print_num c.args.n) (10 ∷ []) in rw (e, eq-eqb c.args.n 10 c.if-back_off.true) record { out_after = (ap (λ (l : List ℕ). set l q 10) p.0 ∙ ap (λ (k : ℕ). set (sets c.args.out.now c.args.at (print_num c.args.n)) k 10) p.1 ∙ sym (sets_append c.args.out.now c.args.at (print_num c.args.n) (10 ∷ [])), omega (arith, p.1)); upper_bound = omega (arith, p.1) }

pub put_two-requires : goal.put_two-requires
put_two-requires c = omega arith

pub returns : goal.returns
returns c = let e = c.if-not-stands.false in rw (e, ne_eqb c.args.n 10 c.if-back_off.false) c.put_two.ensures
