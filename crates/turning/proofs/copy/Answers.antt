-- `turning::copy` meets its contract: the places are copied, and two stores follow. Assumes
-- nothing.
use mathlib.Core.Path.{ap, ◌∙◌}
use mathlib.Core.List.{List, ◌++◌}
use Prim.Native.Nat.{ℕ}
use lib.ListN.{drop, set}
use Rattle.buffer.specs.Places.{BASE, CURRENT, VERSION, DUE}
use Rattle.turning.proofs.Turned.{copy_end}
use Rattle.turning.proofs.copy.Goals as goal

pub returns : goal.returns
returns c =
    let old : List ℕ = c.args.old.now in
    let s : List ℕ = c.args.s.now in
    ap (λ (l : List ℕ). set (set (l ++ drop BASE s) VERSION CURRENT) DUE 0) c.copy_from_slice.ensures.after ∙ copy_end old s c.told-old c.told-s
