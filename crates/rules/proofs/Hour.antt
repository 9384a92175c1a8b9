-- What the count in the hour means without counting: a limit is full just when the permit so many places from the newest is less than
-- 3,600 seconds old. Assumes nothing.
use Prim.Native.Nat.{ℕ, zero, suc, ◌+◌, ◌-◌, ◌≤◌, ◌<◌}
use mathlib.Core.Path.{◌≡◌, refl, sym, ◌∙◌}
use mathlib.Core.Bool.{Bool, true, false, cond, ◌&&◌, false≢true}
use mathlib.Core.List.{List, [], ◌∷◌}
use lib.ListN.{length, get_or}
use lib.Dec.{ltb, leb}
use borrow.Author.Tests.{ltb-true, leb-true, leb-false, lt-ltb, le-leb, lt-leb}
use native.Mathlib.Omega.{arith}
use Rattle.rules.specs.Tables.{within, in_hour, from_newest}
use Rattle.rules.proofs.Newest.{Rising, rising_le, within_true, within_late, few, enough, all_in}

-- L or more of a list that rises to t are in its hour just when there are L and the time L places from the newest is less than 3,600 s ago
pub rolling_hour : (L t a : ℕ) (l : List ℕ) → 0 < L → Rising a l t → leb L (in_hour t l) ≡ (leb L (length l) && ltb t (from_newest L l + 3600))
rolling_hour L t a [] g h = rw (lt-leb L 0 g)
rolling_hour L t a (p ∷ l) g h = go (leb L (length l)) refl (rolling_hour L t p l g h.1)
  where
    full : (b : Bool) → within t p ≡ b → L ≡ suc (length l) → leb L (cond b (suc (in_hour t l)) (in_hour t l)) ≡ ltb t (p + 3600)
    full true e n =
        let late = within_late t p e in
        rw (lt-ltb t (p + 3600) late) (le-leb L (suc (in_hour t l)) (omega (arith, all_in p t l h.1 late)))
    full false e n = out (ltb t (p + 3600)) refl
      where
        out : (b : Bool) → ltb t (p + 3600) ≡ b → leb L (in_hour t l) ≡ b
        out true x = absurd (false≢true (sym e ∙ within_true t p (rising_le p l t h.1) (ltb-true t (p + 3600) x)))
        out false x = lt-leb L (in_hour t l) (omega (arith, few t l))

    last : (b : Bool) → leb L (suc (length l)) ≡ b → length l < L → leb L (in_hour t (p ∷ l)) ≡ (b && ltb t (get_or (p ∷ l) (suc (length l) - L) 0 + 3600))
    last true e d =
        let n : L ≡ suc (length l) = omega (arith, leb-true L (suc (length l)) e) in
        let z : suc (length l) - L ≡ 0 = omega arith in
        rw z (full (within t p) refl n)
    last false e d = lt-leb L (in_hour t (p ∷ l)) (omega (arith, leb-false L (suc (length l)) e, few t (p ∷ l)))

    go : (b : Bool) → leb L (length l) ≡ b → leb L (in_hour t l) ≡ (b && ltb t (get_or l (length l - L) 0 + 3600))
        → leb L (in_hour t (p ∷ l)) ≡ (leb L (suc (length l)) && ltb t (get_or (p ∷ l) (suc (length l) - L) 0 + 3600))
    go true e ih =
        let n = leb-true L (length l) e in
        let z : suc (length l) - L ≡ suc (length l - L) = omega arith in
        rw (z, le-leb L (suc (length l)) (omega arith)) (sym (enough L t p l h.1 n) ∙ ih)
    go false e ih = last (leb L (suc (length l))) refl (leb-false L (length l) e)

-- no time of a list that rises to t is after t
pub rising_at : (a t i : ℕ) (l : List ℕ) → Rising a l t → get_or l i 0 ≤ t
rising_at a t i [] h = omega arith
rising_at a t zero (p ∷ l) h = rising_le p l t h.1
rising_at a t (suc i) (p ∷ l) h = rising_at p t i l h.1

-- so one time tells: L or more of a list that rises to t are in the hour of t just when the time L places from the newest is there and in
-- the hour
pub one_time : (L t a : ℕ) (l : List ℕ) → 0 < L → Rising a l t → leb L (in_hour t l) ≡ (leb L (length l) && within t (from_newest L l))
unfolding within
one_time L t a l g h = rolling_hour L t a l g h ∙ go (leb L (length l)) refl
  where
    go : (b : Bool) → leb L (length l) ≡ b → (b && ltb t (from_newest L l + 3600)) ≡ (b && (leb (from_newest L l) t && ltb t (from_newest L l + 3600)))
    go true e = rw (le-leb (from_newest L l) t (rising_at a t (length l - L) l h))
    go false e = refl
