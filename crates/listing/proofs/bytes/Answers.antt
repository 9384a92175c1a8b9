-- `listing::bytes` meets its contract. Assumes nothing.
use mathlib.Core.List.{append_assoc}
use mathlib.Core.Path.{◌≡◌}
use Prim.Native.Nat.{◌+◌, ◌-◌}
use native.Mathlib.Omega.{arith}
use lib.ListN.{length}
use lib.Seq.{drop-drop}
use Rattle.std.proofs.lemmas.List.Edits.{sets-eq}
use Rattle.listing.proofs.bytes.Goals as goal

pub returns : goal.returns
returns c =
    let o = c.args in
    let n = length o.line.now in
    let e : o.at + n - o.at ≡ n = omega arith in
    rw (c.copy_from_slice.ensures.after, e, sets-eq o.line.now o.out.now o.at c.requires, append_assoc, drop-drop n o.at o.out.now)
