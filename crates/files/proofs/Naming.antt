-- The two ways out of `beside`: there is no room for the ending, or it stands after the name; and
-- what a caller knows of the length that it answers. Assumes nothing.
use mathlib.Core.Path.{◌≡◌, refl}
use mathlib.Core.Bool.{Bool, true, false}
use mathlib.Core.List.{List, append_assoc}
use Prim.Native.Nat.{ℕ, ◌+◌, ◌-◌, ◌≤◌, ◌<◌}
use native.Mathlib.Omega.{arith}
use lib.ListN.{length}
use lib.Seq.{drop-drop}
use borrow.Rule.Slice.PartMut.{put_mid}
use lib.Dec.{leb}
use borrow.Author.Tests.{le-leb, lt-leb, leb-true}
use Rattle.std.specs.Prelude.{Option, Some, None}
use Rattle.files.specs.Beside.{ending, fits, Beside}

module _ (room : List ℕ) (n : ℕ) where
  -- nothing is written where the ending does not fit
  pub no_room : (r : Option ℕ) → r ≡ None → length room < n + 4 → Beside room n r room
  unfolding fits
  no_room r e h =
      record {
        long = rw (lt-leb (n + 4) (length room) h) e;
        bytes = rw (lt-leb (n + 4) (length room) h);
      }

  -- the ending, put where the name ends
  pub named : (e : ℕ) (part : List ℕ) → e ≡ n + 4 → n + 4 ≤ length room → part ≡ ending → Beside room n (Some e) (put_mid n (e - n) room part)
  unfolding fits
  named e part f h g =
      let k : n + 4 - n ≡ 4 = omega arith in
      record {
        long = rw (le-leb (n + 4) (length room) h, f);
        bytes = rw (le-leb (n + 4) (length room) h, f, g, k, drop-drop 4 n room, append_assoc);
      }

-- a length is the name's and its ending's, and within the room
pub within : {room after : List ℕ} {n r : ℕ} → Beside room n (Some r) after → (r ≡ n + 4) × (n + 4 ≤ length room)
unfolding fits
within {room} {n = n} {r = r} b = by (leb (n + 4) (length room)) refl
  where
    by : (t : Bool) → leb (n + 4) (length room) ≡ t → (r ≡ n + 4) × (n + 4 ≤ length room)
    by true e = let q = rw e at b.long in (cc, leb-true _ _ e)
    by false e = let q = rw e at b.long in cc
