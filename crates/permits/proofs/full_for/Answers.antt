-- `permits::full_for` meets its contract: it looks at one time of the list, which by `one_time`
-- tells enough. Assumes nothing.
use mathlib.Core.Path.{◌≡◌, refl, ap, ◌∙◌}
use mathlib.Core.Bool.{Bool, true, false, cond, ◌&&◌}
use mathlib.Core.List.{List}
use Prim.Native.Nat.{ℕ, ◌+◌, ◌-◌, ◌≤◌, ◌<◌}
use native.Mathlib.Omega.{arith}
use borrow.Author.Tests.{le-leb, lt-leb, ltb-false}
use lib.Dec.{leb, ltb}
use lib.ListN.{length, take, get_or}
use lib.Seq.{length-take-le, get_or-take}
use Rattle.rules.specs.Tables.{within, from_newest, free_in, ascending}
use Rattle.rules.proofs.Newest.{Rising, ascending_rises}
use Rattle.rules.proofs.Hour.{rising_at, one_time}
use Rattle.permits.specs.Permits.{full_for}
use Rattle.refusals.proofs.Found.{none_zero, some_above}
use Rattle.permits.proofs.full_for.Goals as goal

-- the first n of p, which rise to t
module _ (p : List ℕ) (n t : ℕ) (long : n ≤ length p) (up : ascending 0 t (take n p) ≡ true) where
  used : length (take n p) ≡ n
  used = length-take-le n p long

  rises : Rising 0 (take n p) t
  rises = ascending_rises 0 t (take n p) (omega arith) up

  past : (i : ℕ) → i < n → get_or p i 0 ≤ t
  past i h = rw (get_or-take n p i 0 h) at (rising_at 0 t i (take n p) rises)

  module _ (L : ℕ) (some : 0 < L) where
    looked : full_for t L (take n p) ≡ cond (leb L (length (take n p)) && within t (from_newest L (take n p))) (free_in t L (take n p)) 0
    unfolding full_for
    looked = ap (λ (b : Bool). cond b (free_in t L (take n p)) 0) (one_time L t 0 (take n p) some rises)

    -- the time L places from the newest is not there
    short : n < L → full_for t L (take n p) ≡ 0
    short h = looked ∙ rw (lt-leb L (length (take n p)) (omega (arith, used)))

    -- it is there, x; the difference is 0 once it has left the hour
    told : L ≤ n → full_for t L (take n p) ≡ get_or p (n - L) 0 + 3600 - t
    unfolding within
    told h = looked ∙ rw (le-leb L (length (take n p)) (omega (arith, used)), stands, le-leb x t (past (n - L) (omega arith))) (go (ltb t (x + 3600)) refl)
      where
        x : ℕ
        x = get_or p (n - L) 0

        stands : from_newest L (take n p) ≡ x
        stands = rw used (get_or-take n p (n - L) 0 (omega arith))

        go : (b : Bool) → ltb t (x + 3600) ≡ b → cond b (x + 3600 - t) 0 ≡ x + 3600 - t
        go true e = refl
        go false e = let k = ltb-false t (x + 3600) e in omega arith

pub returns-then-n-most : goal.returns-then-n-most
returns-then-n-most c =
    let a = c.args in
    none_zero _ (short a.p.now a.n a.t c.requires.n_in_bounds c.requires.p_value a.most c.requires.most_nonzero (omega (arith, c.if-n-most.true)))

pub bounds-p-i : goal.bounds-p-i
bounds-p-i c = omega (arith, c.requires.n_in_bounds, c.requires.most_nonzero)

pub overflow_sub-age : goal.overflow_sub-age
overflow_sub-age c =
    let a = c.args in
    past a.p.now a.n a.t c.requires.n_in_bounds c.requires.p_value _ (omega (arith, c.requires.most_nonzero, c.if-n-most.false))

pub returns-then-age-lt3600 : goal.returns-then-age-lt3600
returns-then-age-lt3600 c =
    let a = c.args in
    let h = past a.p.now a.n a.t c.requires.n_in_bounds c.requires.p_value (a.n - a.most) (omega (arith, c.requires.most_nonzero, c.if-n-most.false)) in
    let d = told a.p.now a.n a.t c.requires.n_in_bounds c.requires.p_value a.most c.requires.most_nonzero (omega (arith, c.if-n-most.false)) in
    some_above _ _ (omega (arith, h, d)) (λ z. omega (arith, c.if-age-lt3600.true, z))

pub returns-else-age-lt3600 : goal.returns-else-age-lt3600
returns-else-age-lt3600 c =
    let a = c.args in
    none_zero _ (omega (arith, told a.p.now a.n a.t c.requires.n_in_bounds c.requires.p_value a.most c.requires.most_nonzero (omega (arith, c.if-n-most.false))))
