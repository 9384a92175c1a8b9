-- The bytes of a file, as the code copies them. Assumes nothing.
use Prim.Native.Nat.{ℕ, ◌+◌, ◌-◌}
use mathlib.Core.Path.{◌≡◌, ap, ◌∙◌}
use mathlib.Core.List.{List, ◌++◌}
use native.Mathlib.Omega.{arith}
use lib.ListN.{length, replicate}
use Rattle.std.proofs.lemmas.List.{drop-replicate}
use Rattle.buffer.specs.Segments.{paste, pad}

-- the front of a blank file written is the file that is filled up with 0
pub filled : (n : ℕ) (l : List ℕ) → paste (replicate n 0) 0 l ≡ pad n l
unfolding paste pad
filled n l = ap (λ (r : List ℕ). l ++ r) (drop-replicate (0 + length l) n 0 ∙ ap (λ (m : ℕ). replicate m 0) (let e : n - (0 + length l) ≡ n - length l = omega arith in e))
