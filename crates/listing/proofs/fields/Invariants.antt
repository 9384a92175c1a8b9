-- `listing::fields` meets its contract. Assumes nothing.
use mathlib.Core.Path.{◌≡◌}
use Prim.Native.Nat.{◌≤◌, ◌+◌, ◌*◌}
use lib.Seq.{sets}
use lib.ListN.{length, drop}
use Rattle.listing.specs.Listing.{fields_of}
use Rattle.listing.proofs.fields.Given as goal

abbrev pub invariant-loop-n : goal.invariant-loop-n
invariant-loop-n l =
    (l.next ≤ l.at + 11 * l.n-index)
    × (sets l.out l.next (fields_of (drop l.n-index l.v)) ≡ sets l.initial.out l.at (fields_of l.v))
    × (l.next + length (fields_of (drop l.n-index l.v)) ≡ l.at + length (fields_of l.v))
