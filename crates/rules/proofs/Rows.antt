-- Tables of limits: a row by its number, rows in document 01's order, and the first that blocks.
-- Nothing here says which rows there are. Assumes nothing.
use Prim.Native.Nat.{ℕ, suc, ◌≤◌, ◌<◌}
use mathlib.Core.Path.{◌≡◌, refl, ap}
use mathlib.Core.Bool.{Bool, true, false, cond, false≢true}
use mathlib.Core.List.{List, [], ◌∷◌}
use mathlib.Core.Logic.{◌≢◌}
use lib.Dec.{eqb}
use borrow.Author.Tests.{eqb-true, eq-eqb, ne_eqb}
use native.Mathlib.Omega.{arith}
use Rattle.rules.specs.Calls.{answer}
use Rattle.rules.specs.Tables.{rank, reset}
use Rattle.rules.specs.Rules.{Limit, limit, limits, blocks, blocked_by, first_block}
use Rattle.rules.specs.State.{State, Facts}
use Rattle.rules.proofs.Newest.{blocks_full}

-- of every row of a table
abbrev pub Each : (Limit → Type 0) → List Limit → Type 0
Each P [] = Unit {0}
Each P (r ∷ rs) = P r × Each P rs

pub each_map : {P Q : Limit → Type 0} (rs : List Limit) → ((r : Limit) → P r → Q r) → Each P rs → Each Q rs
each_map [] f p = tt
each_map (r ∷ rs) f p = (f r p.0, each_map rs f p.1)

-- ---- A row by its number

-- the row of number n; where there is none, one that never applies
abbrev pub named : ℕ → List Limit → Limit
named n [] = limit n false 0 reset
named n (r ∷ rs) = cond (eqb r.number n) r (named n rs)

pub named_number : (n : ℕ) (rs : List Limit) → (named n rs).number ≡ n
named_number n [] = refl
named_number n (r ∷ rs) = go (eqb r.number n) refl (named_number n rs)
  where
    go : (b : Bool) → eqb r.number n ≡ b → (named n rs).number ≡ n → (cond b r (named n rs)).number ≡ n
    go true e rest = eqb-true r.number n e
    go false e rest = rest

-- what every row has, a row that is there has
pub each_named : (P : Limit → Type 0) (n : ℕ) (rs : List Limit) → Each P rs → (named n rs).applies ≡ true → P (named n rs)
each_named P n [] h e = absurd (false≢true e)
each_named P n (r ∷ rs) h e = go (eqb r.number n) e (each_named P n rs h.1)
  where
    go : (b : Bool) → (cond b r (named n rs)).applies ≡ true → ((named n rs).applies ≡ true → P (named n rs)) → P (cond b r (named n rs))
    go true e rest = h.0
    go false e rest = rest e

-- ---- Rows in order

-- numbers above 0, each looked at before those that follow
abbrev pub Ordered : List Limit → Type 0
Ordered [] = Unit {0}
Ordered (r ∷ rs) = (0 < r.number) × (Each (λ x. rank r.number < rank x.number) rs × Ordered rs)

-- it is enough that each comes after its neighbour, the first not before the m-th
abbrev From : ℕ → List Limit → Type 0
From m [] = Unit {0}
From m (r ∷ rs) = (0 < r.number) × ((m ≤ rank r.number) × From (suc (rank r.number)) rs)

from_above : (m : ℕ) (rs : List Limit) → From m rs → Each (λ x. m ≤ rank x.number) rs
from_above m [] h = tt
from_above m (r ∷ rs) h = (h.1.0, each_map rs (λ x p. omega (arith, h.1.0)) (from_above (suc (rank r.number)) rs h.1.1))

from_ordered : (m : ℕ) (rs : List Limit) → From m rs → Ordered rs
from_ordered m [] h = tt
from_ordered m (r ∷ rs) h =
    let next = suc (rank r.number) in
    (h.0, (each_map rs (λ x p. omega (arith, p)) (from_above next rs h.1.1), from_ordered next rs h.1.1))

pub ordered : (f : Facts) (q : ℕ) → Ordered (limits f q)
unfolding limits
ordered f q = from_ordered 0 (limits f q) (omega arith)

pub each_other : (n : ℕ) (rs : List Limit) → Each (λ x. rank n < rank x.number) rs → Each (λ x. x.number ≢ n) rs
each_other n [] h = tt
each_other n (r ∷ rs) h = ((λ e. omega (arith, h.0, ap rank e)), each_other n rs h.1)

-- ---- The first that blocks

module _ (w : State) (t : ℕ) where
  -- a row that is looked at before number n does not block
  abbrev pub Before : ℕ → Limit → Type 0
  Before n r = rank r.number < rank n → blocks w t r ≡ false

  -- a row that blocks is looked at after those before it
  later : (r : Limit) (n : ℕ) (rs : List Limit) → Each (λ x. rank r.number < rank x.number) rs → blocks w t (named n rs) ≡ true
      → rank r.number < rank n
  later r n rs o b = rw (named_number n rs) at (each_named (λ x. rank r.number < rank x.number) n rs o (blocks_full w t (named n rs) b).applies)

  pub first_none : (rs : List Limit) → Each (λ r. blocks w t r ≡ false) rs → first_block w t rs ≡ answer 0 0
  first_none [] h = refl
  first_none (r ∷ rs) h = rw h.0 (first_none rs h.1)

  pub first_named : (n : ℕ) (rs : List Limit) → Ordered rs → blocks w t (named n rs) ≡ true → Each (Before n) rs
      → first_block w t rs ≡ blocked_by w t (named n rs)
  first_named n [] o b h = absurd (false≢true (blocks_full w t (named n []) b).applies)
  first_named n (r ∷ rs) o b h = go (eqb r.number n) b (λ c. first_named n rs o.1.1 c h.1)
    where
      go : (x : Bool) → blocks w t (cond x r (named n rs)) ≡ true → (blocks w t (named n rs) ≡ true → first_block w t rs ≡ blocked_by w t (named n rs))
          → first_block w t (r ∷ rs) ≡ blocked_by w t (cond x r (named n rs))
      go true b rest = rw b
      go false b rest = rw (h.0 (later r n rs o.1.0 b)) (rest b)

  -- none blocks, or the row of some number is the first
  pub data Found (rs : List Limit) : Type 0 where
    none : Each (λ r. blocks w t r ≡ false) rs → Found rs
    some : (n : ℕ) → blocks w t (named n rs) ≡ true → Each (Before n) rs → Found rs

  above : (n : ℕ) (rs : List Limit) → Each (λ r. rank n < rank r.number) rs → Each (Before n) rs
  above n [] h = tt
  above n (r ∷ rs) h = ((λ l. absurd (omega (arith, h.0))), above n rs h.1)

  pub find : (rs : List Limit) → Ordered rs → Found rs
  find [] o = none tt
  find (r ∷ rs) o = go (blocks w t r) refl (find rs o.1.1)
    where
      go : (b : Bool) → blocks w t r ≡ b → Found rs → Found (r ∷ rs)
      go true e f = some r.number (rw (eq-eqb r.number r.number refl) e) ((λ l. absurd (omega arith)), above r.number rs o.1.0)
      go false e (none h) = none (e, h)
      go false e (some n b h) =
          let lower = later r n rs o.1.0 b in
          some n (rw (ne_eqb r.number n (λ x. omega (arith, lower, ap rank x))) b) ((λ l. e), h)
