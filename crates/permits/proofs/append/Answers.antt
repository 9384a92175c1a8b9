-- `permits::append` meets its contract. Assumes nothing.
use mathlib.Core.Path.{◌≡◌, sym, ◌∙◌}
use Prim.Native.Nat.{◌-◌}
use lib.ListN.{length}
use native.Mathlib.Omega.{arith}
use Rattle.permits.proofs.Shifting.{shift_end, appended_full, appended_room}
use Rattle.permits.proofs.append.Goals as goal

pub returns-then-n-lt255 : goal.returns-then-n-lt255
returns-then-n-lt255 c = (omega arith, sym (appended_room _ _ _ c.requires c.if-n-lt255.true))

pub returns : goal.returns
returns c =
    let a = c.args in
    let k : length a.p.now - 1 ≡ 254 = omega (arith, c.requires.long) in (
      omega arith,
      rw (c.copy_within.ensures.after, k) (shift_end a.p.now 254 a.t (omega (arith, c.requires.long)) ∙ sym (appended_full a.p.now a.n a.t c.requires.long (omega arith))),
    )
