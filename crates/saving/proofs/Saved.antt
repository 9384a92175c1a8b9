-- The counters of a good state, and what the call says in each of its cases. Assumes nothing.
use mathlib.Core.Path.{◌≡◌, refl}
use mathlib.Core.Bool.{true, false, and-false}
use mathlib.Core.List.{List}
use Prim.Native.Nat.{ℕ, ◌+◌, ◌≤◌, ◌<◌}
use lib.Dec.{eqb}
use lib.ListN.{length, get_or}
use Rattle.rules.specs.Calls.{answer}
use Rattle.buffer.specs.Places.{COUNTERS}
use Rattle.buffer.specs.Layout.{facts_of}
use Rattle.buffer.specs.Good.{good}
use Rattle.buffer.proofs.Goodness.{each_at_most}
use Rattle.buffer.proofs.Sane.{good_sane}
use Rattle.buffer.proofs.Laid.{laid_good, counter_at}
use Rattle.card.specs.Card.{written}
use Rattle.saving.specs.Save.{saves, SaveSays}

module _ (b : List ℕ) (g : good b ≡ true) (i : ℕ) (h : i < 6) where
  pub counter_is : get_or b (COUNTERS + i) 0 ≡ get_or (facts_of b).counters i 0
  counter_is = counter_at (laid_good b g) i h

  pub counter_byte : get_or b (COUNTERS + i) 0 ≤ 255
  counter_byte = rw counter_is (each_at_most 255 (facts_of b).counters (good_sane b g).counters.small i)

-- the two refusals, and the file written
module _ {b out : List ℕ} where
  pub says_room : eqb (length out) 32 ≡ false → SaveSays b out (answer 1 0) b out
  unfolding saves
  says_room h = record { answered = rw (h, and-false (good b)); left = refl; room = rw (h, and-false (good b)) }

  pub says_bad : good b ≡ false → SaveSays b out (answer 1 0) b out
  unfolding saves
  says_bad g = record { answered = rw g; left = refl; room = rw g }

  pub says_written : {y : List ℕ} → good b ≡ true → eqb (length out) 32 ≡ true → y ≡ written (facts_of b).counters → SaveSays b out (answer 0 32) b y
  unfolding saves
  says_written g h e = record { answered = rw (g, h); left = refl; room = rw (g, h) e }
