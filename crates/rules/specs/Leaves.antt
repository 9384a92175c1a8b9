-- What is meant by the permit time that has to leave the hour before a limit permits again. Assumes nothing.
use Rattle.std.specs.Prelude.{◌≡◌, true, List, ℕ, ◌+◌, ◌-◌, ◌≤◌, ◌<◌, length, drop}
use Rattle.rules.specs.Tables.{within, in_hour, from_newest}

-- the time L places from the newest has to leave the hour of t, on the list l
pub record Leaves (l : List ℕ) (L t : ℕ) : Type 0 where
  -- it is on the list, and in the hour
  pub listed : length l - L < length l
  pub in_the_hour : within t (from_newest L l) ≡ true
  -- exactly L - 1 are newer, and all of those are in the hour
  pub newer : in_hour t (drop (length l - L + 1) l) ≡ L - 1
  -- L or more are in the hour until it has left
  pub until : (u : ℕ) → t ≤ u → u < from_newest L l + 3600 → L ≤ in_hour u l
  -- and from then on fewer; exactly L - 1 at first, unless the next newer is of the same second and leaves with it
  pub from : (u : ℕ) → from_newest L l + 3600 ≤ u → in_hour u l < L
  pub exactly : (1 < L → from_newest L l < from_newest (L - 1) l) → in_hour (from_newest L l + 3600) l ≡ L - 1
