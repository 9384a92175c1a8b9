-- The permit time that has to leave the hour before a limit permits again. Assumes nothing.
use mathlib.Core.Path.{◌≡◌, refl, sym, ◌∙◌}
use mathlib.Core.Bool.{Bool, true, false}
use mathlib.Core.List.{List, [], ◌∷◌}
use Prim.Native.Nat.{ℕ, zero, suc, ◌+◌, ◌-◌, ◌≤◌, ◌<◌}
use native.Mathlib.Omega.{arith}
use native.Mathlib.Numerals.{add-one}
use lib.Dec.{leb, ltb}
use lib.ListN.{length, get_or, drop, length-drop}
use borrow.Author.Tests.{leb-true, leb-false, le-leb, ltb-true, lt-ltb, le-ltb}
use Rattle.rules.specs.Tables.{in_hour, from_newest}
use Rattle.rules.specs.Leaves.{Leaves}
use Rattle.rules.specs.Rules.{Limit, blocks}
use Rattle.rules.specs.State.{State}
use Rattle.rules.proofs.Newest.{Rising, rising_le, rising_more, within_true, few, all_in, blocks_full}
use Rattle.rules.proofs.Hour.{rolling_hour}

-- of a list that rises, what is after place i rises from there
rises_from : (a t i : ℕ) (l : List ℕ) → Rising a l t → i < length l → Rising (get_or l i 0) (drop (suc i) l) t
rises_from a t i [] h g = absurd (omega arith)
rises_from a t zero (x ∷ l) h g = h.1
rises_from a t (suc i) (x ∷ l) h g = rises_from x t i l h.1 (omega arith)

module _ (L t a : ℕ) (l : List ℕ) (up : Rising a l t) (some : 0 < L) (full : L ≤ in_hour t l) where
  p : ℕ
  p = from_newest L l

  long : L ≤ length l
  long = omega (arith, few t l, full)

  -- L or more are in the hour of u just when u is before p + 3,600
  turns : (u : ℕ) → t ≤ u → leb L (in_hour u l) ≡ ltb u (p + 3600)
  unfolding p
  turns u h = rolling_hour L u a l some (rising_more a l t u up h) ∙ rw (le-leb L (length l) long)

  late : t < p + 3600
  late = ltb-true t (p + 3600) (sym (turns t (omega arith)) ∙ le-leb L (in_hour t l) full)

  stands : length l - L < length l
  stands = omega (arith, long)

  rest_rises : Rising p (drop (suc (length l - L)) l) t
  unfolding p
  rest_rises = rises_from a t (length l - L) l up stands

  from_then : (u : ℕ) → p + 3600 ≤ u → in_hour u l < L
  from_then u h = let n = late in leb-false L (in_hour u l) (turns u (omega arith) ∙ le-ltb u (p + 3600) h)

  -- when it leaves, the next newer is still in the hour
  then_exactly : (1 < L → p < from_newest (L - 1) l) → in_hour (p + 3600) l ≡ L - 1
  then_exactly h = go (leb 2 L) refl
    where
      less : in_hour (p + 3600) l < L
      less = from_then (p + 3600) (omega arith)

      go : (b : Bool) → leb 2 L ≡ b → in_hour (p + 3600) l ≡ L - 1
      go true e =
          let two = leb-true 2 L e in
          let n = late in
          let q = h two in
          let g = long in
          let k : leb (L - 1) (in_hour (p + 3600) l) ≡ true = rolling_hour (L - 1) (p + 3600) a l (omega arith) (rising_more a l t (p + 3600) up (omega arith)) ∙ rw (le-leb (L - 1) (length l) (omega arith), lt-ltb (p + 3600) (from_newest (L - 1) l + 3600) (omega arith)) in
          let m = leb-true (L - 1) (in_hour (p + 3600) l) k in
          omega (arith, less)
      go false e = let one = leb-false 2 L e in omega (arith, less)

  pub leaves_hour : Leaves l L t
  unfolding p
  leaves_hour = record {
    listed = stands;
    in_the_hour = within_true t p (rising_le p (drop (suc (length l - L)) l) t rest_rises) late;
    newer = rw add-one (all_in p t (drop (suc (length l - L)) l) rest_rises late ∙ length-drop (suc (length l - L)) l ∙ omega (arith, long));
    until = λ u h k. leb-true L (in_hour u l) (turns u h ∙ lt-ltb u (p + 3600) k);
    from = from_then;
    exactly = then_exactly;
  }

-- of a limit that blocks
pub full_leaves : (w : State) (t : ℕ) (r : Limit) (a : ℕ) → Rising a (w.lists r.kind) t → blocks w t r ≡ true → Leaves (w.lists r.kind) r.most t
full_leaves w t r a up e = let f = blocks_full w t r e in leaves_hour r.most t a (w.lists r.kind) up f.above f.over
