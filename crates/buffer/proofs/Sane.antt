-- A valid state as facts, nested by who changes what. Assumes nothing.
use mathlib.Core.Path.{◌≡◌, refl}
use mathlib.Core.Bool.{Bool, true, false, cond, not, ◌&&◌, ◌||◌, true≢false}
use mathlib.Core.List.{List, [], map}
use Prim.Native.Nat.{ℕ, zero, suc, ◌+◌, ◌*◌, ◌^◌, ◌≤◌, ◌<◌}
use native.Mathlib.Omega.{arith}
use lib.Dec.{leb, eqb}
use lib.ListN.{length, get_or, get_or-eq_default}
use borrow.Author.Tests.{leb-true, le-leb, eqb-true, eq-eqb}
use Rattle.rules.specs.Calls.{Opening}
use Rattle.rules.specs.Tables.{highest_time, Kind, attach, activation, pdp, sms, reset}
use Rattle.rules.specs.State.{State, Facts, Mode, Services}
use Rattle.buffer.specs.Places.{QUOTIENT, REMAINDER}
use Rattle.buffer.specs.Layout.{rows, place, facts_of, view}
use Rattle.buffer.specs.Good.{every, at_most, zeros, bytes, highest_end, parameters, house, rates, times_good, imsi_good, flags_good, count_good, intervals_good, ends_good, standing_good, mood_good, list_good, good, fits, values, valid}
use Rattle.rules.proofs.Checks.{and_left, and_right}
use Rattle.buffer.proofs.Tests.{pick, passed}
use Rattle.buffer.proofs.Laying.{Shaped, at_place}
use Rattle.buffer.proofs.Goodness.{both_true, shaped_valid, fits_shaped, valid_view}

pub record SaneOpening (o : Opening) : Type 0 where
  pub imsi : o.imsi ≤ 999999999999999
  pub rpm : o.rpm ≤ 1
  pub parameters : bytes (parameters o) ≡ true
  pub house : bytes (house o) ≡ true
  pub rates : bytes (rates o) ≡ true

pub record SaneMode (m : Mode) : Type 0 where
  pub nfm : m.nfm ≤ 1
  pub start : m.start ≤ 1
  pub some : 1 ≤ length m.intervals
  pub few : length m.intervals ≤ 10
  pub rising : intervals_good m.intervals ≡ true

-- service 2 may be up
abbrev pub highest : ℕ → ℕ
highest s = cond (eqb s 2) 2 1

pub record SaneServices (nfm : ℕ) (v : Services) : Type 0 where
  pub four_failures : length v.failures ≡ 4
  pub four_ends : length v.ends ≡ 4
  pub four_standing : length v.standing ≡ 4
  pub failures : bytes v.failures ≡ true
  pub ends : at_most highest_end v.ends ≡ true
  pub off : eqb nfm 1 ≡ false → zeros v.ends ≡ true
  pub free : get_or v.standing 2 0 ≡ 2 → get_or v.ends 2 0 ≡ 0
  pub standing : (s : ℕ) → get_or v.standing s 0 ≤ highest s
  pub mood : v.mood ≤ 3

pub record SaneCounters (l : List ℕ) : Type 0 where
  pub six : length l ≡ 6
  pub small : bytes l ≡ true

pub record Sane (f : Facts) : Type 0 where
  pub opening : SaneOpening f.opening
  pub mode : SaneMode f.mode
  pub late : f.opening.opened ≤ f.last
  pub early : f.last ≤ highest_time
  pub counters : SaneCounters f.counters
  pub services : SaneServices f.mode.nfm f.services

pub record Valid (v : State) : Type 0 where
  pub sane : Sane v.facts
  pub short : (k : Kind) → length (v.lists k) ≤ 255
  pub rising : (k : Kind) → list_good v.facts.opening.opened v.facts.last (v.lists k) ≡ true

-- ---- From the tests

or_else : (x y : Bool) → (x || y) ≡ true → x ≡ false → y ≡ true
or_else true y h e = absurd (true≢false e)
or_else false y h e = h

module _ (v : State) (h : valid v ≡ true) where
  value : (i : ℕ) → get_or (values v) i true ≡ true
  unfolding valid
  value i = pick (values v) i (and_right (every (fits v)) (every (values v)) h)

  shaped : Shaped v.facts (rows v.lists)
  shaped = shaped_valid v h

  sane_mode : SaneMode v.facts.mode
  unfolding values flags_good count_good
  sane_mode =
      let m = v.facts.mode in
      let n = length m.intervals in
      let flags = and_left (leb m.nfm 1 && leb m.start 1) _ (value 2) in
      record {
        nfm = leb-true m.nfm 1 (and_left (leb m.nfm 1) _ flags);
        start = leb-true m.start 1 (and_right (leb m.nfm 1) _ flags);
        some = leb-true 1 n (and_left (leb 1 n) (leb n 10) (value 3));
        few = leb-true n 10 (and_right (leb 1 n) (leb n 10) (value 3));
        rising = value 4;
      }

  sane_opening : SaneOpening v.facts.opening
  unfolding values flags_good imsi_good
  sane_opening =
      let o = v.facts.opening in
      let m = v.facts.mode in
      record {
        imsi = leb-true o.imsi 999999999999999 (value 1);
        rpm = leb-true o.rpm 1 (and_right (leb m.nfm 1 && leb m.start 1) _ (value 2));
        parameters = value 5;
        house = value 6;
        rates = value 7;
      }

  stands : (s : ℕ) → get_or v.facts.services.standing s 0 ≤ highest s
  unfolding values standing_good
  stands s = go s
    where
      l : List ℕ
      l = v.facts.services.standing

      first : (leb (get_or l 0 0) 1 && leb (get_or l 1 0) 1 && leb (get_or l 2 0) 2 && leb (get_or l 3 0) 1) ≡ true
      first = value 10

      three : (leb (get_or l 0 0) 1 && leb (get_or l 1 0) 1 && leb (get_or l 2 0) 2) ≡ true
      three = and_left (leb (get_or l 0 0) 1 && leb (get_or l 1 0) 1 && leb (get_or l 2 0) 2) _ first

      two : (leb (get_or l 0 0) 1 && leb (get_or l 1 0) 1) ≡ true
      two = and_left (leb (get_or l 0 0) 1 && leb (get_or l 1 0) 1) _ three

      go : (s : ℕ) → get_or l s 0 ≤ highest s
      go zero = leb-true _ 1 (and_left (leb (get_or l 0 0) 1) _ two)
      go (suc zero) = leb-true _ 1 (and_right (leb (get_or l 0 0) 1) _ two)
      go (suc (suc zero)) = leb-true _ 2 (and_right (leb (get_or l 0 0) 1 && leb (get_or l 1 0) 1) _ three)
      go (suc (suc (suc zero))) = leb-true _ 1 (and_right (leb (get_or l 0 0) 1 && leb (get_or l 1 0) 1 && leb (get_or l 2 0) 2) _ first)
      go (suc (suc (suc (suc s)))) = let e = get_or-eq_default l 0 {n = suc (suc (suc (suc s)))} (omega (arith, shaped.standing)) in rw e (omega arith)

  sane_services : SaneServices v.facts.mode.nfm v.facts.services
  unfolding values ends_good mood_good
  sane_services =
      let f = v.facts in
      let e = f.services.ends in
      let up = get_or f.services.standing 2 0 in
      let both = and_left (at_most highest_end e && (eqb f.mode.nfm 1 || zeros e)) _ (value 9) in
      let free = and_right (at_most highest_end e && (eqb f.mode.nfm 1 || zeros e)) _ (value 9) in
      record {
        four_failures = shaped.failures;
        four_ends = shaped.ends;
        four_standing = shaped.standing;
        failures = value 8;
        ends = and_left (at_most highest_end e) _ both;
        off = or_else (eqb f.mode.nfm 1) (zeros e) (and_right (at_most highest_end e) _ both);
        free = λ x. eqb-true (get_or e 2 0) 0 (or_else (not (eqb up 2)) (eqb (get_or e 2 0) 0) free (rw (eq-eqb up 2 x)));
        standing = stands;
        mood = leb-true f.services.mood 3 (value 11);
      }

  list_rises : (k : Kind) → list_good v.facts.opening.opened v.facts.last (v.lists k) ≡ true
  unfolding values
  list_rises k = go k
    where
      tests : List Bool
      tests = map (list_good v.facts.opening.opened v.facts.last) (rows v.lists)

      go : (k : Kind) → list_good v.facts.opening.opened v.facts.last (v.lists k) ≡ true
      go attach = pick tests 0 (value 13)
      go activation = pick tests 1 (value 13)
      go pdp = pick tests 2 (value 13)
      go sms = pick tests 3 (value 13)
      go reset = pick tests 4 (value 13)

  pub valid_facts : Valid v
  unfolding values times_good
  valid_facts =
      let f = v.facts in
      let times = value 0 in
      record {
        sane = record {
          opening = sane_opening;
          mode = sane_mode;
          late = leb-true f.opening.opened f.last (and_left (leb f.opening.opened f.last) _ times);
          early = leb-true f.last highest_time (and_right (leb f.opening.opened f.last) _ times);
          counters = record { six = shaped.counters; small = value 12 };
          services = sane_services;
        };
        short = λ k. rw (at_place v.lists k) at (shaped.short (place k));
        rising = list_rises;
      }

-- ---- To the tests

short_rows : (l : Kind → List ℕ) → ((k : Kind) → length (l k) ≤ 255) → (i : ℕ) → length (get_or (rows l) i []) ≤ 255
short_rows l h zero = h attach
short_rows l h (suc zero) = h activation
short_rows l h (suc (suc zero)) = h pdp
short_rows l h (suc (suc (suc zero))) = h sms
short_rows l h (suc (suc (suc (suc zero)))) = h reset
short_rows l h (suc (suc (suc (suc (suc i))))) = omega arith

module _ (f : Facts) (s : Sane f) where
  times_of : times_good f.opening.opened f.last ≡ true
  unfolding times_good
  times_of = both_true (le-leb _ _ s.late) (le-leb _ _ s.early)

  imsi_of : imsi_good f.opening.imsi ≡ true
  unfolding imsi_good
  imsi_of = le-leb _ _ s.opening.imsi

  flags_of : flags_good f.mode.nfm f.mode.start f.opening.rpm ≡ true
  unfolding flags_good
  flags_of = both_true (both_true (le-leb _ _ s.mode.nfm) (le-leb _ _ s.mode.start)) (le-leb _ _ s.opening.rpm)

  count_of : count_good (length f.mode.intervals) ≡ true
  unfolding count_good
  count_of = both_true (le-leb _ _ s.mode.some) (le-leb _ _ s.mode.few)

  ends_of : ends_good f.mode.nfm f.services ≡ true
  unfolding ends_good
  ends_of = both_true (both_true s.services.ends (off (eqb f.mode.nfm 1) refl)) (free (eqb up 2) refl)
    where
      up : ℕ
      up = get_or f.services.standing 2 0

      off : (b : Bool) → eqb f.mode.nfm 1 ≡ b → (b || zeros f.services.ends) ≡ true
      off true e = refl
      off false e = s.services.off e

      free : (b : Bool) → eqb up 2 ≡ b → (not b || eqb (get_or f.services.ends 2 0) 0) ≡ true
      free true e = eq-eqb _ 0 (s.services.free (eqb-true up 2 e))
      free false e = refl

  standing_of : standing_good f.services.standing ≡ true
  unfolding standing_good
  standing_of =
      let at = s.services.standing in
      both_true (both_true (both_true (le-leb _ _ (at 0)) (le-leb _ _ (at 1))) (le-leb _ _ (at 2))) (le-leb _ _ (at 3))

  mood_of : mood_good f.services.mood ≡ true
  unfolding mood_good
  mood_of = le-leb _ _ s.services.mood

pub facts_valid : (v : State) → Valid v → valid v ≡ true
unfolding valid values
facts_valid v h =
    let f = v.facts in
    let s = h.sane in
    let shaped : Shaped f (rows v.lists) = record {
      intervals = s.mode.few;
      failures = s.services.four_failures;
      ends = s.services.four_ends;
      standing = s.services.four_standing;
      counters = s.counters.six;
      five = refl;
      short = short_rows v.lists h.short;
    } in
    let lists =
    passed (map (list_good f.opening.opened f.last) (rows v.lists))
    (h.rising attach, (h.rising activation, (h.rising pdp, (h.rising sms, (h.rising reset, tt))))) in
    both_true (fits_shaped v shaped)
    (passed (values v)
    (times_of f s, (imsi_of f s, (flags_of f s, (count_of f s, (s.mode.rising, (s.opening.parameters, (s.opening.house, (s.opening.rates, (s.services.failures, (ends_of f s, (standing_of f s, (mood_of f s, (s.counters.small, (lists, tt)))))))))))))))

-- ---- What a good buffer holds

pub good_sane : (b : List ℕ) → good b ≡ true → Sane (facts_of b)
good_sane b g = (valid_facts (view b) (valid_view b g)).sane

-- a card draws from an IMSI of 50 bits
pub imsi_low : (b : List ℕ) → good b ≡ true → {m : ℕ} → m ≡ get_or b QUOTIENT 0 * 2 ^ 32 + get_or b REMAINDER 0 → m < 2 ^ 60
unfolding facts_of
imsi_low b g v = omega (arith, (good_sane b g).opening.imsi)
