-- The test of a file's unused bytes as std's, and what `&p[n..]` holds. Assumes nothing.
use mathlib.Core.Path.{◌≡◌, refl, ap}
use mathlib.Core.Bool.{Bool, ◌&&◌}
use mathlib.Core.List.{List, [], ◌∷◌}
use Prim.Native.Nat.{ℕ, ◌-◌}
use native.Mathlib.Nat.{le_of_eq}
use lib.Dec.{eqb}
use lib.ListN.{length, take, drop, length-drop}
use lib.Seq.{take_all}
use Rattle.std.specs.List.{list_all}
use Rattle.card.specs.Card.{blank}

pub blank_all : (p : List ℕ) → list_all (λ (b : ℕ). eqb b 0) p ≡ blank p
unfolding blank
blank_all [] = refl
blank_all (x ∷ p) = ap (λ (b : Bool). eqb x 0 && b) (blank_all p)

-- what `&p[n..]` holds
pub rest : (n : ℕ) (p : List ℕ) → take (length p - n) (drop n p) ≡ drop n p
rest n p = take_all (length p - n) (drop n p) (le_of_eq (length-drop n p))
