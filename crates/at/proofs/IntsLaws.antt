-- A list of intervals, one interval at a time, and the array that holds those read. Assumes nothing.
use Prim.Native.Nat.{ℕ, suc, ◌+◌, ◌-◌, ◌≤◌, ◌<◌}
use mathlib.Core.Path.{◌≡◌, refl, sym, ap, ◌∙◌}
use mathlib.Core.Bool.{true, false}
use mathlib.Core.List.{List, [], ◌∷◌, ◌++◌}
use native.Mathlib.Numerals.{add-one}
use native.Mathlib.Omega.{arith}
use lib.ListN.{length, take, drop, set, replicate, take-append-drop, length-set}
use lib.Seq.{drop-drop, drop-set-lt, take-suc-set, length-take-le}
use borrow.Author.Tests.{le-leb, lt-leb}
use Rattle.at.specs.Lines.{starts, ends, ints, cr, comma}
use Rattle.text.specs.Number.{got, none, num}
use Rattle.std.specs.Prelude.{Some}
use Rattle.at.specs.Order.{listed, some_listed}

pub ints_zero : (l : List ℕ) (last : ℕ) (done : List ℕ) → ints 0 l last done ≡ []
unfolding ints
ints_zero l last done = refl

module _ (k : ℕ) (l : List ℕ) (last : ℕ) (done : List ℕ) where
  pub ints_none : num 65535 l ≡ none → ints (suc k) l last done ≡ []
  unfolding ints
  ints_none e = rw e

  module _ (v : ℕ) (r : List ℕ) (e : num 65535 l ≡ got v r) where
    pub ints_low : v < last → ints (suc k) l last done ≡ []
    unfolding ints
    ints_low h = rw (e, lt-leb last v h)

    module _ (h : last ≤ v) where
      pub ints_last : ends cr r ≡ true → ints (suc k) l last done ≡ done ++ (v ∷ [])
      unfolding ints
      ints_last p = rw (e, le-leb last v h, p)

      pub ints_other : ends cr r ≡ false → starts comma r ≡ false → ints (suc k) l last done ≡ []
      unfolding ints
      ints_other p q = rw (e, le-leb last v h, p, q)

      pub ints_more : ends cr r ≡ false → starts comma r ≡ true → ints (suc k) l last done ≡ ints k (drop 1 r) v (done ++ (v ∷ []))
      unfolding ints
      ints_more p q = rw (e, le-leb last v h, p, q)

-- a list that has intervals is not refused
some_ints : (xs : List ℕ) → 1 ≤ length xs → some_listed xs ≡ Some (listed xs)
some_ints [] h = absurd (omega arith)
some_ints (x ∷ xs) h = refl

-- the places from n on are unused
module _ (xs : List ℕ) (n : ℕ) (len : length xs ≡ 10) (z : drop n xs ≡ replicate (10 - n) 0) where
  pub whole : 1 ≤ n → n ≤ 10 → some_listed (take n xs) ≡ Some (record { count = n; list = xs })
  whole k h =
      let e = length-take-le n xs (omega arith) in
      some_ints (take n xs) (omega arith) ∙ ap Some (rw (e, ← z, take-append-drop n xs))

  module _ (v : ℕ) (h : n < 10) where
    pub take_more : take (n + 1) (set xs n v) ≡ take n xs ++ (v ∷ [])
    take_more = rw (add-one, take-suc-set xs n v (omega arith))

    pub drop_more : drop (n + 1) (set xs n v) ≡ replicate (10 - (n + 1)) 0
    drop_more =
        drop-set-lt (n + 1) xs n v (omega arith) ∙ (sym (drop-drop 1 n xs) ∙ (ap (drop 1) z ∙ ap (λ (m : ℕ). drop 1 (replicate m 0)) (let e : 10 - n ≡ suc (10 - (n + 1)) = omega arith in e)))

    pub length_more : length (set xs n v) ≡ 10
    length_more = length-set xs n v ∙ len
