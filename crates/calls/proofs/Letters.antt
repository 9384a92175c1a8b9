-- The letters of timed lines. Assumes nothing.
use Prim.Native.Nat.{ℕ, ◌≤◌}
use mathlib.Core.Path.{◌≡◌}
use mathlib.Core.Bool.{Bool, true, false, cond}
use mathlib.Core.Logic.{◌≢◌}
use lib.Dec.{eqb}
use native.Mathlib.Omega.{arith}
use borrow.Author.Tests.{ne_eqb}
use Rattle.calls.specs.Letters.{letter_q, letter_g, letter_s, letter_j, letter_d, letter_t, how_many}

-- any other byte begins no timed line
module _ (x : ℕ) (a : x ≢ letter_q) (b : x ≢ letter_g) (c : x ≢ letter_s) (d : x ≢ letter_j) (e : x ≢ letter_d) where
  pub many_none : x ≢ letter_t → how_many x ≡ 0
  unfolding how_many
  many_none f = rw (ne_eqb x letter_q a, ne_eqb x letter_g b, ne_eqb x letter_s c, ne_eqb x letter_j d, ne_eqb x letter_d e, ne_eqb x letter_t f)

-- no letter has more than five
pub many_few : (x : ℕ) → how_many x ≤ 5
unfolding how_many
many_few x = go (eqb x letter_q) (eqb x letter_g) (eqb x letter_s) (eqb x letter_j) (eqb x letter_d) (eqb x letter_t)
  where
    go : (q g s j d t : Bool) → cond q 2 (cond g 2 (cond s 2 (cond j 5 (cond d 1 (cond t 1 0))))) ≤ 5
    go true g s j d t = omega arith
    go false true s j d t = omega arith
    go false false true j d t = omega arith
    go false false false true d t = omega arith
    go false false false false true t = omega arith
    go false false false false false true = omega arith
    go false false false false false false = omega arith
