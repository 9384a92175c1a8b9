-- `text::put_two` meets its contract. Assumes nothing.
use mathlib.Core.Path.{◌≡◌, ap, ◌∙◌}
use native.Mathlib.Omega.{arith}
use lib.ListN.{length, length-set}
use lib.Seq.{length-sets}
use Rattle.text.specs.Printed.{print_num}
use Rattle.text.proofs.Putting.{ten_digits}
use Rattle.text.proofs.put_two.Goals as goal

pub put-last-requires : goal.put-last-requires
put-last-requires c = let h = ten_digits c.args.n (omega arith) in let k = ten_digits c.args.m (omega arith) in let e = c.put-next.ensures.1 in simp length-set (omega arith)

pub bounds-out-last : goal.bounds-out-last
bounds-out-last c = let h = ten_digits c.args.n (omega arith) in let k = ten_digits c.args.m (omega arith) in let w = ap length c.put-next.ensures.0 ∙ length-sets c.args.out.now c.args.at (print_num c.args.n) in let z : length c.put-last.new.out ≡ length c.put-next.new.out = c.put-last.auto.out ∙ length-set c.put-next.new.out c.put-next.result 32 in omega (arith, w, z, c.put-next.ensures.1, c.put-last.ensures.1)
