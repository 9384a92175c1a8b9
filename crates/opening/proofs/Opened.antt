-- What is known of a new state, where opening answers 0 and the files are bytes: its limits are bytes, it is valid, and it holds what rules.
-- Assumes nothing.
use mathlib.Core.Path.{◌≡◌, refl, sym, ap, ◌∙◌}
use mathlib.Core.Bool.{Bool, true, false, cond, ◌&&◌}
use mathlib.Core.List.{List, [], ◌∷◌}
use Prim.Native.Nat.{ℕ, zero, suc, ◌+◌, ◌≤◌, ◌<◌}
use native.Mathlib.Omega.{arith}
use lib.Dec.{leb, eqb, lit<, lit≤}
use lib.ListN.{length, get_or, take, replicate}
use lib.Seq.{get_or-take}
use borrow.Author.Tests.{leb-true, eq-eqb}
use Rattle.rules.specs.declared.Answer.{Answer}
use Rattle.rules.specs.Tables.{highest_time}
use Rattle.rules.specs.State.{fresh, idle}
use Rattle.buffer.specs.Places.{SIZE}
use Rattle.rules.proofs.Checks.{and_right}
use Rattle.buffer.specs.Segments.{off}
use Rattle.buffer.specs.Layout.{rows, segments, widths, spread, lay}
use Rattle.buffer.specs.Good.{at_most, bytes, valid}
use Rattle.buffer.proofs.Segments.{spelled}
use Rattle.buffer.proofs.Laying.{get}
use Rattle.buffer.proofs.Goodness.{each_at_most, shaped_valid}
use Rattle.buffer.proofs.Sane.{SaneServices, facts_valid}
use Rattle.buffer.proofs.Keep.{at_most_cons, at_most_nil, ascending_nil}
use Rattle.card.specs.Card.{absent, both_good, ruling_file, part, six_parameters, three_rates, six_counters}
use Rattle.card.proofs.Chosen.{part_whole}
use Rattle.opening.specs.Open.{Order, Typed, settings, files, open_number, begun, given_by, open_after, OpenSays, Ruled}
use Rattle.opening.proofs.Filling.{spell_all}
use Rattle.opening.proofs.Cases.{InOrder, in_order}

-- an opening that passes the checks
record Passed (o : Order) : Type 0 where
  fit : InOrder o
  early : o.time ≤ highest_time

passed : (b : List ℕ) (o : Order) → open_number b o ≡ 0 → Passed o
unfolding open_number
passed b o = go (eqb (length b) SIZE) (settings o && files o) (leb o.time highest_time) refl refl
  where
    go : (x y z : Bool) → (settings o && files o) ≡ y → leb o.time highest_time ≡ z → ◌≡◌ {A = ℕ} (cond x (cond y (cond z 0 3) 2) 1) 0 → Passed o
    go true true true e l h = record { fit = in_order o e; early = leb-true o.time highest_time l }
    go true true false e l h = absurd (omega arith)
    go true false z e l h = absurd (omega arith)
    go false y z e l h = absurd (omega arith)

-- numbers of a file of bytes, one by one
spelled_low : (hi : ℕ) (l : List ℕ) → at_most hi l ≡ true → (a n : ℕ) → at_most hi (spelled l a n) ≡ true
spelled_low hi l h a zero = at_most_nil hi
spelled_low hi l h a (suc n) = at_most_cons hi (get_or l a 0) (spelled l (suc a) n) (each_at_most hi l h a) (spelled_low hi l h (suc a) n)

idle_at : (s : ℕ) → ◌≡◌ {A = ℕ} (get_or idle s 0) 0
idle_at zero = refl
idle_at (suc zero) = refl
idle_at (suc (suc zero)) = refl
idle_at (suc (suc (suc zero))) = refl
idle_at (suc (suc (suc (suc s)))) = refl

-- idle services are sane
idle_sane : (nfm : ℕ) → SaneServices nfm (record { failures = idle; ends = idle; standing = idle; mood = 0 })
unfolding at_most
idle_sane nfm = record {
  four_failures = refl;
  four_ends = refl;
  four_standing = refl;
  failures = refl;
  ends = refl;
  off = λ e. refl;
  free = λ e. refl;
  standing = λ s. omega (arith, idle_at s);
  mood = lit≤ tt;
}

-- the part of a file that rules is bytes, since both files are
take_low : (hi n : ℕ) (l : List ℕ) → at_most hi l ≡ true → at_most hi (take n l) ≡ true
unfolding at_most
take_low hi zero l h = at_most_nil hi
take_low hi (suc n) [] h = h
take_low hi (suc n) (x ∷ l) h = at_most_cons hi x (take n l) (each_at_most hi (x ∷ l) h 0) (take_low hi n l (and_right (leb x hi) (at_most hi l) h))

part_low : (long n : ℕ) (card own : List ℕ) → bytes card ≡ true → bytes own ≡ true → bytes (part long n card own) ≡ true
unfolding part ruling_file
part_low long n card own c m = go (both_good long n card own) (absent card)
  where
    go : (x y : Bool) → bytes (cond x (take n (cond y own card)) []) ≡ true
    go true true = take_low 255 n own m
    go true false = take_low 255 n card c
    go false y = at_most_nil 255

-- the bytes of a part, one by one, are those of the file that rules
spelled_rules : (long n : ℕ) (card own : List ℕ) → 0 < n → n ≤ long → length (part long n card own) ≡ n → (i : ℕ) → i < n
    → get_or (spelled (part long n card own) 0 n) i 0 ≡ get_or (ruling_file card own) i 0
spelled_rules long n card own some fits l i h =
    let p = part long n card own in
    ap (λ (x : List ℕ). get_or x i 0) (sym (spell_all p n l) ∙ part_whole long n card own some fits l) ∙ get_or-take n (ruling_file card own) i 0 h

module _ (b : List ℕ) (o : Order) (accepted : open_number b o ≡ 0) (t : Typed o) where
  six_low : bytes (six_parameters o.parameters o.own_parameters) ≡ true
  six_low = part_low 32 6 o.parameters o.own_parameters t.parameters t.own_parameters

  three_low : bytes (three_rates o.rates o.own_rates) ≡ true
  three_low = part_low 6 3 o.rates o.own_rates t.rates t.own_rates

  counters_low : bytes (six_counters o.counters) ≡ true
  unfolding at_most
  counters_low = part_low 32 6 o.counters (replicate 32 0) t.counters refl

  pub opened_valid : valid (given_by o) ≡ true
  unfolding fresh begun
  opened_valid =
      let h = passed b o accepted in
      let f = h.fit in
      facts_valid (given_by o)
      (record {
        sane = record {
          opening = record {
            imsi = f.imsi;
            rpm = f.rpm;
            parameters = spelled_low 255 (six_parameters o.parameters o.own_parameters) six_low 0 6;
            house = at_most_cons 255 _ _ f.A1 (at_most_cons 255 _ _ f.S1 (at_most_nil 255));
            rates = spelled_low 255 (three_rates o.rates o.own_rates) three_low 0 3;
          };
          mode = record { nfm = f.nfm; start = lit≤ tt; some = f.some; few = f.few; rising = f.rising };
          late = omega arith;
          early = h.early;
          counters = record { six = refl; small = spelled_low 255 (six_counters o.counters) counters_low 0 6 };
          services = idle_sane o.nfm;
        };
        short = λ k. lit≤ tt;
        rising = λ k. ascending_nil o.time o.time;
      })

  -- the places of the files hold what rules
  pub opened_rules : (r : Answer) (x : List ℕ) → OpenSays b o r x → Ruled o x
  unfolding open_after spread segments fresh begun
  opened_rules r x says =
      let f = (passed b o accepted).fit in
      let v = given_by o in
      let is : x ≡ lay v = says.left ∙ rw (eq-eqb (open_number b o) 0 accepted) in
      let at : (k i : ℕ) → i < get_or widths k 0 → get_or x (off widths k + i) 0 ≡ get_or (get_or (segments v.facts (rows v.lists)) k []) i 0
      = λ k i h. ap (λ (y : List ℕ). get_or y (off widths k + i) 0) is ∙ get v.facts (rows v.lists) (shaped_valid v opened_valid) k i h in
      record {
        parameters = λ i h. at 7 i h ∙ spelled_rules 32 6 o.parameters o.own_parameters (lit< tt) (lit≤ tt) f.parameters i h;
        rates = λ i h. at 9 i h ∙ spelled_rules 6 3 o.rates o.own_rates (lit< tt) (lit≤ tt) f.rates i h;
        counters = λ i h. at 14 i h ∙ spelled_rules 32 6 o.counters (replicate 32 0) (lit< tt) (lit≤ tt) f.counters i h;
      }
