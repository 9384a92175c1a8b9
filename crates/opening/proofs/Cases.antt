-- What opening says in each of its cases, and what its checks tell of what it is given. Assumes nothing.
use mathlib.Core.Path.{◌≡◌, refl, sym, ◌∙◌}
use mathlib.Core.Bool.{Bool, true, false, ◌&&◌, and-true}
use mathlib.Core.List.{List, [], ◌∷◌}
use Prim.Native.Nat.{ℕ, ◌≤◌}
use lib.Dec.{leb, eqb, lit<, lit≤}
use lib.ListN.{length, replicate}
use borrow.Author.Tests.{leb-true, eqb-true, eq-eqb}
use Rattle.rules.specs.Calls.{answer}
use Rattle.rules.specs.Tables.{highest_time, ascending, scheduled}
use Rattle.buffer.specs.Places.{SIZE}
use Rattle.buffer.specs.Layout.{lay}
use Rattle.rules.proofs.Checks.{and_left, and_right}
use Rattle.buffer.proofs.Tests.{pick}
use Rattle.card.specs.Card.{good_or_absent, both_good, six_parameters, three_rates, six_counters}
use Rattle.card.proofs.Chosen.{part_tells}
use Rattle.card.proofs.OnePart.{zero_counters_are_file}
use Rattle.opening.specs.Open.{Order, order, settings, files, open_number, begun, given_by, open_after, OpenSays}

-- the length of each part that rules tells whether its files are good; counters have zeros beside them
module _ (o : Order) where
  abbrev P : List ℕ
  P = six_parameters o.parameters o.own_parameters

  abbrev Q : List ℕ
  Q = three_rates o.rates o.own_rates

  abbrev K : List ℕ
  K = six_counters o.counters

  six : eqb (length P) 6 ≡ both_good 32 6 o.parameters o.own_parameters
  six = part_tells 32 6 o.parameters o.own_parameters (lit< tt) (lit≤ tt)

  three : eqb (length Q) 3 ≡ both_good 6 3 o.rates o.own_rates
  three = part_tells 6 3 o.rates o.own_rates (lit< tt) (lit≤ tt)

  counted : eqb (length K) 6 ≡ good_or_absent 32 6 o.counters
  unfolding both_good
  counted = part_tells 32 6 o.counters (replicate 32 0) (lit< tt) (lit≤ tt) ∙ rw zero_counters_are_file (and-true (good_or_absent 32 6 o.counters))

  -- the test of files, as the code makes it
  module _ {p q k : List ℕ} (f : p ≡ P) (g : q ≡ Q) (h : k ≡ K) where
    measured : (eqb (length p) 6 && eqb (length q) 3 && eqb (length k) 6) ≡ files o
    unfolding files
    measured = rw (f, g, h, six, three, counted) refl

    pub good_files : length p ≡ 6 → length q ≡ 3 → length k ≡ 6 → files o ≡ true
    good_files x y z = sym measured ∙ rw (eq-eqb (length p) 6 x, eq-eqb (length q) 3 y, eq-eqb (length k) 6 z) refl

    pub bad_files : ((length p ≡ 6) × ((length q ≡ 3) × (length k ≡ 6)) → ⊥) → files o ≡ false
    bad_files none = sym measured ∙ go (eqb (length p) 6) (eqb (length q) 3) (eqb (length k) 6) refl refl refl
      where
        go : (x y z : Bool) → eqb (length p) 6 ≡ x → eqb (length q) 3 ≡ y → eqb (length k) 6 ≡ z → (x && y && z) ≡ false
        go true true true u v w = absurd (none (eqb-true (length p) 6 u, (eqb-true (length q) 3 v, eqb-true (length k) 6 w)))
        go true true false u v w = refl
        go true false z u v w = refl
        go false y z u v w = refl

  -- the new buffer, by the parts that the code has
  pub laid : {p q k : List ℕ} → p ≡ P → q ≡ Q → k ≡ K → lay (begun (order o.time o.imsi o.intervals o.nfm o.rpm o.A1 o.S1 [] [] [] [] []) p q k) ≡ lay (given_by o)
  unfolding begun
  laid f g h = rw (f, g, h)

-- what settings and files in order are
pub record InOrder (o : Order) : Type 0 where
  pub imsi : o.imsi ≤ 999999999999999
  pub some : 1 ≤ length o.intervals
  pub few : length o.intervals ≤ 10
  pub rising : ascending 1 65535 o.intervals ≡ true
  pub nfm : o.nfm ≤ 1
  pub rpm : o.rpm ≤ 1
  pub A1 : o.A1 ≤ 255
  pub S1 : o.S1 ≤ 255
  pub parameters : length (six_parameters o.parameters o.own_parameters) ≡ 6
  pub rates : length (three_rates o.rates o.own_rates) ≡ 3
  pub counters : length (six_counters o.counters) ≡ 6

pub in_order : (o : Order) → (settings o && files o) ≡ true → InOrder o
unfolding settings files
in_order o h =
    let l = o.intervals in
    let tests : List Bool = leb o.imsi 999999999999999 ∷ scheduled l ∷ leb o.nfm 1 ∷ leb o.rpm 1 ∷ leb o.A1 255 ∷ leb o.S1 255 ∷ [] in
    let shapes : List Bool = both_good 32 6 o.parameters o.own_parameters ∷ both_good 6 3 o.rates o.own_rates ∷ good_or_absent 32 6 o.counters ∷ [] in
    let test : (i : ℕ) → _ = λ i. pick tests i (and_left (settings o) (files o) h) in
    let shape : (i : ℕ) → _ = λ i. pick shapes i (and_right (settings o) (files o) h) in
    let count = and_left (leb 1 (length l) && leb (length l) 10) _ (test 1) in
    record {
      imsi = leb-true o.imsi 999999999999999 (test 0);
      some = leb-true 1 (length l) (and_left (leb 1 (length l)) _ count);
      few = leb-true (length l) 10 (and_right (leb 1 (length l)) _ count);
      rising = and_right (leb 1 (length l) && leb (length l) 10) _ (test 1);
      nfm = leb-true o.nfm 1 (test 2);
      rpm = leb-true o.rpm 1 (test 3);
      A1 = leb-true o.A1 255 (test 4);
      S1 = leb-true o.S1 255 (test 5);
      parameters = eqb-true (length (P o)) 6 (six o ∙ shape 0);
      rates = eqb-true (length (Q o)) 3 (three o ∙ shape 1);
      counters = eqb-true (length (K o)) 6 (counted o ∙ shape 2);
    }

-- the refusals, and a new buffer
module _ {b : List ℕ} {o : Order} where
  pub says_length : eqb (length b) SIZE ≡ false → OpenSays b o (answer 1 0) b
  unfolding open_number open_after
  says_length h = record { answered = rw h; left = rw h }

  pub says_settings : eqb (length b) SIZE ≡ true → settings o ≡ false → OpenSays b o (answer 2 0) b
  unfolding open_number open_after
  says_settings h e = record { answered = rw (h, e); left = rw (h, e) }

  pub says_files : eqb (length b) SIZE ≡ true → settings o ≡ true → files o ≡ false → OpenSays b o (answer 2 0) b
  unfolding open_number open_after
  says_files h d e = record { answered = rw (h, d, e); left = rw (h, d, e) }

  pub says_late : eqb (length b) SIZE ≡ true → settings o ≡ true → files o ≡ true → leb o.time highest_time ≡ false → OpenSays b o (answer 3 0) b
  unfolding open_number open_after
  says_late h d e l = record { answered = rw (h, d, e, l); left = rw (h, d, e, l) }

  pub says_new : eqb (length b) SIZE ≡ true → settings o ≡ true → files o ≡ true → leb o.time highest_time ≡ true → OpenSays b o (answer 0 0) (lay (given_by o))
  unfolding open_number open_after
  says_new h d e l = record { answered = rw (h, d, e, l); left = rw (h, d, e, l) }
