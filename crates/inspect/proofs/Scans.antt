-- The tests on a list, one number at a time, and what a part of a buffer holds. Assumes nothing.
use mathlib.Core.Path.{◌≡◌, refl, sym, ap, ◌∙◌}
use mathlib.Core.Bool.{Bool, true, false, ◌&&◌, ◌||◌, and-true, and-false}
use mathlib.Core.List.{List, [], ◌∷◌}
use Prim.Native.Nat.{ℕ, zero, suc, ◌+◌, ◌-◌, ◌≤◌, ◌<◌}
use native.Mathlib.Numerals.{add-one}
use native.Mathlib.Omega.{arith}
use lib.Dec.{leb, eqb}
use borrow.Author.Tests.{leb-true, le-leb, ne_eqb}
use lib.ListN.{length, get_or, take, drop, drop_of_length-le}
use lib.Seq.{drop-cons, drop-drop}
use Rattle.rules.specs.Tables.{ascending}
use Rattle.buffer.specs.Segments.{part}
use Rattle.buffer.specs.Good.{at_most}
use Rattle.rules.proofs.Checks.{and_left, and_right}

-- what was passed and what is left decide: `ok` and the rest of the list
module _ (hi : ℕ) (p : List ℕ) (i : ℕ) (ok : Bool) (so : at_most hi p ≡ (ok && at_most hi (drop i p))) where
  pub at_most_next : i < length p → at_most hi p ≡ ((ok && leb (get_or p i 0) hi) && at_most hi (drop (i + 1) p))
  unfolding at_most
  at_most_next h = so ∙ rw (add-one, drop-cons p i 0 h) (go ok)
    where
      go : (x : Bool) → (x && (leb (get_or p i 0) hi && at_most hi (drop (suc i) p))) ≡ ((x && leb (get_or p i 0) hi) && at_most hi (drop (suc i) p))
      go true = refl
      go false = refl

  pub at_most_end : length p ≤ i → ok ≡ at_most hi p
  unfolding at_most
  at_most_end h = sym (so ∙ rw (drop_of_length-le p {i = i} h) (and-true ok))

-- a list that rises from low on, and its last number, or low where it has none
unfoldable pub climbs : ℕ → List ℕ → Bool
climbs low [] = true
climbs low (x ∷ l) = leb low x && climbs x l

unfoldable pub last_of : ℕ → List ℕ → ℕ
last_of low [] = low
last_of low (x ∷ l) = last_of x l

climbs_to : (low : ℕ) (l : List ℕ) → climbs low l ≡ true → low ≤ last_of low l
unfolding climbs last_of
climbs_to low [] h = omega arith
climbs_to low (x ∷ l) h = omega (arith, leb-true low x (and_left (leb low x) (climbs x l) h), climbs_to x l (and_right (leb low x) (climbs x l) h))

-- no number of a list that rises is above hi where the last is not
ascending_climbs : (lo hi : ℕ) (l : List ℕ) → (climbs lo l && (eqb (length l) 0 || leb (last_of lo l) hi)) ≡ ascending lo hi l
unfolding climbs last_of ascending
ascending_climbs lo hi [] = refl
ascending_climbs lo hi (x ∷ l) = rw (ne_eqb (suc (length l)) 0 (omega arith), ← ascending_climbs x hi l) (go (leb lo x) (climbs x l) (leb (last_of x l) hi) refl refl)
  where
    empty : (m : List ℕ) → climbs x m ≡ true → leb (last_of x m) hi ≡ leb x hi && (eqb (length m) 0 || leb (last_of x m) hi)
    empty [] h = sym (and-true (leb x hi))
    empty (y ∷ m) h = rw (ne_eqb (suc (length m)) 0 (omega arith)) (below (leb (last_of x (y ∷ m)) hi) refl)
      where
        below : (b : Bool) → leb (last_of x (y ∷ m)) hi ≡ b → b ≡ (leb x hi && b)
        below true e = sym (rw (le-leb x hi (omega (arith, climbs_to x (y ∷ m) h, leb-true (last_of x (y ∷ m)) hi e))))
        below false e = sym (and-false (leb x hi))

    go : (a c d : Bool) → climbs x l ≡ c → leb (last_of x l) hi ≡ d
        → ((a && c) && d) ≡ (a && (leb x hi && (c && (eqb (length l) 0 || d))))
    go false c d e f = refl
    go true false d e f = sym (and-false (leb x hi))
    go true true d e f = rw (← f) (empty l e)

module _ (lo low : ℕ) (p : List ℕ) (i : ℕ) (ok : Bool) (so : climbs lo p ≡ (ok && climbs low (drop i p))) (to : last_of lo p ≡ last_of low (drop i p)) where
  pub climbs_next : i < length p → climbs lo p ≡ ((ok && leb low (get_or p i 0)) && climbs (get_or p i 0) (drop (i + 1) p))
  unfolding climbs
  climbs_next h = so ∙ rw (add-one, drop-cons p i 0 h) (go ok)
    where
      go : (x : Bool) → (x && (leb low (get_or p i 0) && climbs (get_or p i 0) (drop (suc i) p))) ≡ ((x && leb low (get_or p i 0)) && climbs (get_or p i 0) (drop (suc i) p))
      go true = refl
      go false = refl

  pub last_next : i < length p → last_of lo p ≡ last_of (get_or p i 0) (drop (i + 1) p)
  unfolding last_of
  last_next h = to ∙ rw (add-one, drop-cons p i 0 h)

  pub climbs_end : (hi : ℕ) → length p ≤ i → (ok && (eqb (length p) 0 || leb low hi)) ≡ ascending lo hi p
  unfolding climbs last_of
  climbs_end hi h =
      let c : climbs lo p ≡ ok = so ∙ rw (drop_of_length-le p {i = i} h) (and-true ok) in
      let e : last_of lo p ≡ low = to ∙ rw (drop_of_length-le p {i = i} h) in
      rw (← c, ← e) (ascending_climbs lo hi p)

-- what `&b[a..a + n]` holds
pub span : (b : List ℕ) (a n : ℕ) → part b a (a + n - a) ≡ part b a n
span b a n = let e : a + n - a ≡ n = omega arith in ap (λ (k : ℕ). part b a k) e

take_nil : (k : ℕ) → ◌≡◌ {A = List ℕ} (take k []) []
take_nil zero = refl
take_nil (suc k) = refl

-- what `&b[a + n..a + w]` holds: what the n numbers that are used leave of w places
drop_take : (n w : ℕ) (l : List ℕ) → take (w - n) (drop n l) ≡ drop n (take w l)
drop_take zero w l = let e : w - 0 ≡ w = omega arith in ap (λ (k : ℕ). take k l) e
drop_take (suc n) zero l = let e : 0 - suc n ≡ 0 = omega arith in ap (λ (k : ℕ). take k (drop (suc n) l)) e
drop_take (suc n) (suc w) [] = take_nil (suc w - suc n)
drop_take (suc n) (suc w) (x ∷ l) = let e : suc w - suc n ≡ w - n = omega arith in ap (λ (k : ℕ). take k (drop n l)) e ∙ drop_take n w l

pub spare : (b : List ℕ) (a n w : ℕ) → part b (a + n) (a + w - (a + n)) ≡ drop n (part b a w)
spare b a n w =
    let e : a + w - (a + n) ≡ w - n = omega arith in
    ap (λ (k : ℕ). part b (a + n) k) e ∙ ap (λ (l : List ℕ). take (w - n) l) (sym (drop-drop n a b)) ∙ drop_take n w (drop a b)
