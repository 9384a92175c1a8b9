-- What a permit does to the places of the five lists. Assumes nothing.
use mathlib.Core.Path.{◌≡◌, ap, ◌∙◌}
use mathlib.Core.List.{List, [], ◌∷◌, ◌++◌}
use Prim.Native.Nat.{ℕ, ◌+◌, ◌-◌, ◌*◌, ◌<◌, min}
use native.Mathlib.Nat.{le_of_eq}
use native.Mathlib.Omega.{arith}
use borrow.Rule.Slice.PartMut.{put_mid}
use lib.Dec.{lit≤}
use lib.ListN.{length, take, drop, get_or, set, length-append, length-drop}
use lib.Seq.{take_all, drop-drop}
use Rattle.rules.specs.Rules.{newest}
use Rattle.rules.specs.State.{Facts}
use Rattle.permits.specs.Permits.{Holds, appended}
use Rattle.permits.proofs.Shifting.{newest_length}
use Rattle.buffer.specs.Segments.{pad, part, paste}
use Rattle.buffer.specs.Layout.{spread}
use Rattle.buffer.specs.Places.{LENGTHS, LISTS}
use Rattle.buffer.specs.Good.{Shape}
use Rattle.buffer.specs.Lists.{Listed, permitted}
use Rattle.buffer.proofs.Segments.{length_part}
use Rattle.buffer.proofs.Laying.{Shaped, length_pad, take_pad, places_at, count_at, set_row, shaped_row}
use Rattle.buffer.proofs.Goodness.{zeros_replicate}

-- what a slice holds when `&mut b[a..a + n]` comes back with y in it
pub back : (b : List ℕ) (a n : ℕ) (y : List ℕ) → length y ≡ n → put_mid a (a + n - a) b y ≡ paste b a y
unfolding paste
back b a n y h =
    let e : a + (a + n - a) ≡ a + length y = omega arith in
    ap {B = List ℕ} (λ r. take a b ++ (y ++ r)) (drop-drop (a + n - a) a b ∙ ap (λ (m : ℕ). drop m b) e)

-- list k of a buffer that has the shape
pub row_holds : (b : List ℕ) → Shape b → (k : ℕ) → k < 5 → Holds (part b (LISTS + 255 * k) 255) (get_or b (LENGTHS + k) 0)
row_holds b h k l =
    let p = part b (LISTS + 255 * k) 255 in
    let n = get_or b (LENGTHS + k) 0 in
    let long : length p ≡ 255 = length_part b (LISTS + 255 * k) 255 (omega (arith, h.long)) in
    let left : length (drop n p) ≡ 255 - n = simp length-drop (omega arith) in
    record { long = long; used = h.short k l; zeros = rw left at (zeros_replicate (drop n p) (h.clear k l)) }

pub appended_length : (p : List ℕ) (n t : ℕ) → Holds p n → length (appended p n t) ≡ 255
unfolding pad
appended_length p n t h = length_pad 255 (newest (take n p ++ (t ∷ []))) (omega (arith, newest_length (take n p ++ (t ∷ []))))

pub row_listed : (b : List ℕ) → Shape b → (k : ℕ) → k < 5 → Listed b k
row_listed b h k l = record { long = h.long; five = l; holds = row_holds b h k l }

-- a permit on list k of facts and lists that are laid out
module _ (f : Facts) (rs : List (List ℕ)) (s : Shaped f rs) (k : ℕ) (five : k < 5) (t : ℕ) where
  added : List ℕ
  added = newest (get_or rs k [] ++ (t ∷ []))

  added_length : length (newest (get_or rs k [] ++ (t ∷ []))) ≡ min (length (get_or rs k []) + 1) 255
  added_length = rw (newest_length, length-append)

  pub shaped_permit : Shaped f (set rs k (newest (get_or rs k [] ++ (t ∷ []))))
  shaped_permit = shaped_row f rs s k (newest (get_or rs k [] ++ (t ∷ []))) (omega (arith, added_length))

  pub permit_row : permitted (spread f rs) k t ≡ spread f (set rs k (newest (get_or rs k [] ++ (t ∷ []))))
  unfolding permitted pad
  permit_row =
      let l : List ℕ = get_or rs k [] in
      let whole : part (spread f rs) (LISTS + 255 * k) 255 ≡ pad 255 l = places_at f rs s k 255 five (lit≤ tt) ∙ take_all 255 (pad 255 l) (le_of_eq (length_pad 255 l (s.short k))) in
      rw (count_at f rs s k five, whole, take_pad 255 l, ← added_length) (set_row f rs s k (newest (get_or rs k [] ++ (t ∷ []))) five (omega (arith, added_length)))
