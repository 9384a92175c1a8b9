-- A buffer of version 1 is good exactly when the turned one is, and both hold the same. Assumes
-- nothing.
use mathlib.Core.Path.{◌≡◌, refl, sym, ap, ◌∙◌}
use mathlib.Core.Bool.{Bool, true, false, cond, not, ◌&&◌}
use mathlib.Core.List.{List, [], ◌∷◌, ◌++◌}
use mathlib.Core.Logic.{◌≢◌}
use Prim.Native.Nat.{ℕ, zero, suc, ◌+◌, ◌*◌, ◌^◌, ◌-◌, ◌≤◌, ◌<◌}
use native.Mathlib.Omega.{arith}
use lib.Dec.{lit<, lit≤, ltb, eqb}
use lib.ListN.{length, get_or, drop, set, length-drop, length-set, length-append, get_or-append, get_or-eq_default}
use lib.Seq.{set-append_left, get_or-set_same, get_or-set_other, get_or-append-add}
use borrow.Author.Tests.{ltb-true, ltb-false, eqb-true, eq-eqb, ne_eqb, not-true, not-false}
use Rattle.rules.specs.declared.Answer.{Answer}
use Rattle.rules.specs.Calls.{answer}
use Rattle.buffer.specs.Places.{SIZE, BASE, CURRENT, VERSION, OPENED, LAST, QUOTIENT, REMAINDER, NFM, START, RPM, COUNT, INTERVALS, PARAMETERS, HOUSE, RATES, FAILURES, ENDS, STANDING, MOOD, COUNTERS, LENGTHS, LISTS, DUE}
use Rattle.buffer.specs.Segments.{part}
use Rattle.buffer.specs.Layout.{letters, place, row, facts_of, view}
use Rattle.buffer.specs.Good.{every, zeros, bytes, unused, parameters, house, rates, times_good, imsi_good, flags_good, count_good, intervals_good, ends_good, standing_good, mood_good, list_good, row_good, lines, good_as, good}
use Rattle.turning.specs.Turning.{good1, turned, turns, TurnSays}
use Rattle.rules.proofs.Checks.{and_left, and_right}
use Rattle.buffer.proofs.Tests.{pick}
use Rattle.buffer.proofs.Segments.{set_append_add, spelled, spell}
use Rattle.buffer.proofs.Laying.{place_low}
use Rattle.buffer.proofs.Goodness.{byte_low, both_true}
use Rattle.inspect.proofs.Judged.{wrong_counts, few_intervals, short_lists}

-- the numbers of what is used are in range
abbrev counted : List ℕ → Bool
counted x = count_good (get_or x COUNT 0) && bytes (part x LENGTHS 5)

module _ (b : List ℕ) (long : length b ≡ BASE) where
  front : List ℕ
  front = set b VERSION CURRENT

  front_long : length front ≡ BASE
  unfolding front
  front_long = length-set b VERSION CURRENT ∙ long

  turned_long : length (turned b) ≡ SIZE
  unfolding turned
  turned_long = simp (length-append, length-set) (omega (arith, long))

  turned_version : get_or (turned b) VERSION 0 ≡ CURRENT
  unfolding turned
  turned_version = get_or-append (set b VERSION CURRENT) (0 ∷ []) 0 VERSION (simp length-set (omega (arith, long))) ∙ get_or-set_same b VERSION CURRENT 0 (omega (arith, long))

  -- every other number is the same; past the end there is 0
  no_more : (j : ℕ) → ◌≡◌ {A = ℕ} (get_or (0 ∷ []) j 0) 0
  no_more zero = refl
  no_more (suc j) = refl

  at : (i : ℕ) → i ≢ VERSION → get_or (turned b) i 0 ≡ get_or b i 0
  unfolding turned front
  at i n = go (ltb i BASE) refl
    where
      go : (x : Bool) → ltb i BASE ≡ x → get_or (set b VERSION CURRENT ++ (0 ∷ [])) i 0 ≡ get_or b i 0
      go true e =
          let h = ltb-true i BASE e in
          get_or-append front (0 ∷ []) 0 i (omega (arith, front_long)) ∙ get_or-set_other b VERSION i CURRENT 0 n
      go false e =
          let h = ltb-false i BASE e in
          let k : length front + (i - BASE) ≡ i = omega (arith, front_long) in
          ap (λ (m : ℕ). get_or (front ++ (0 ∷ [])) m 0) (sym k)
          ∙ get_or-append-add front (0 ∷ []) (i - BASE) 0
          ∙ no_more (i - BASE)
          ∙ sym (get_or-eq_default b 0 {n = i} (omega (arith, long)))

  spelled_same : (p n : ℕ) → 2 ≤ p → spelled (turned b) p n ≡ spelled b p n
  spelled_same p zero h = refl
  spelled_same p (suc n) h = λ i. at p (λ z. omega arith) i ∷ spelled_same (suc p) n (omega arith) i

  parts : (p n : ℕ) → 2 ≤ p → p + n ≤ BASE → part (turned b) p n ≡ part b p n
  parts p n h g = spell (turned b) p n (omega (arith, turned_long)) ∙ spelled_same p n h ∙ sym (spell b p n (omega (arith, long)))

  -- ---- What it holds, where the numbers of what is used are in range

  counted_same : counted (turned b) ≡ counted b
  counted_same i = count_good (at COUNT (λ z. omega arith) i) && bytes (parts LENGTHS 5 (lit≤ tt) (lit≤ tt) i)

  module _ (fine : counted b ≡ true) where
    few : get_or b COUNT 0 ≤ 10
    few = few_intervals b fine

    short : (k : ℕ) → k < 5 → get_or b (LENGTHS + k) 0 ≤ 255
    short = byte_low b LENGTHS 5 (short_lists b fine)

    intervals_same : part (turned b) INTERVALS (get_or (turned b) COUNT 0) ≡ part b INTERVALS (get_or b COUNT 0)
    intervals_same = ap (λ (n : ℕ). part (turned b) INTERVALS n) (at COUNT (λ z. omega arith)) ∙ parts INTERVALS (get_or b COUNT 0) (lit≤ tt) (omega (arith, few))

    facts_same : facts_of (turned b) ≡ facts_of b
    unfolding facts_of
    facts_same i =
        let g : (p : ℕ) → p ≢ VERSION → ℕ = λ p n. at p n i in
        record {
          opening = record {
            opened = g OPENED (λ z. omega arith);
            imsi = g QUOTIENT (λ z. omega arith) * 2 ^ 32 + g REMAINDER (λ z. omega arith);
            rpm = g RPM (λ z. omega arith);
            N1 = g PARAMETERS (λ z. omega arith);
            T1 = g (PARAMETERS + 1) (λ z. omega arith);
            F1 = g (PARAMETERS + 2) (λ z. omega arith);
            F2 = g (PARAMETERS + 3) (λ z. omega arith);
            F3 = g (PARAMETERS + 4) (λ z. omega arith);
            F4 = g (PARAMETERS + 5) (λ z. omega arith);
            A1 = g HOUSE (λ z. omega arith);
            S1 = g (HOUSE + 1) (λ z. omega arith);
            LR1 = g RATES (λ z. omega arith);
            LR2 = g (RATES + 1) (λ z. omega arith);
            LR3 = g (RATES + 2) (λ z. omega arith);
          };
          mode = record { nfm = g NFM (λ z. omega arith); start = g START (λ z. omega arith); intervals = intervals_same i };
          last = g LAST (λ z. omega arith);
          counters = parts COUNTERS 6 (lit≤ tt) (lit≤ tt) i;
          services = record {
            failures = parts FAILURES 4 (lit≤ tt) (lit≤ tt) i;
            ends = parts ENDS 4 (lit≤ tt) (lit≤ tt) i;
            standing = parts STANDING 4 (lit≤ tt) (lit≤ tt) i;
            mood = g MOOD (λ z. omega arith);
          };
          due = g DUE (λ z. omega arith);
        }

    length_same : (k : ℕ) → get_or (turned b) (LENGTHS + k) 0 ≡ get_or b (LENGTHS + k) 0
    length_same k = at (LENGTHS + k) (λ z. omega arith)

    row_same : (k : ℕ) → k < 5 → row (turned b) k ≡ row b k
    row_same k h =
        ap (λ (n : ℕ). part (turned b) (LISTS + 255 * k) n) (length_same k)
        ∙ parts (LISTS + 255 * k) (get_or b (LENGTHS + k) 0) (omega arith) (omega (arith, short k h))

    -- what a version 1 buffer holds
    view_same : view (turned b) ≡ view b
    view_same i = record { facts = facts_same i; lists = λ k. row_same (place k) (place_low k) i }

    row_good_same : (k : ℕ) → k < 5 → row_good (turned b) k ≡ row_good b k
    unfolding row_good
    row_good_same k h i =
        list_good (facts_same i).opening.opened (facts_same i).last (row_same k h i)
        && zeros (unused (length_same k i) (parts (LISTS + 255 * k) 255 (omega arith) (omega arith) i))

    lines_same : lines (turned b) ≡ lines b
    unfolding lines
    lines_same i =
        let f = facts_same i in
        let o = f.opening in
        let m = f.mode in
        let v = f.services in
        let n = at COUNT (λ z. omega arith) i in
        eqb (at 0 (λ z. omega arith) i) letters
        ∷ times_good o.opened f.last
        ∷ (ltb (at REMAINDER (λ z. omega arith) i) (2 ^ 32) && imsi_good o.imsi)
        ∷ flags_good m.nfm m.start o.rpm
        ∷ count_good n
        ∷ (intervals_good m.intervals && zeros (unused n (parts INTERVALS 10 (lit≤ tt) (lit≤ tt) i)))
        ∷ bytes (parameters o)
        ∷ bytes (house o)
        ∷ bytes (rates o)
        ∷ bytes v.failures
        ∷ ends_good m.nfm v
        ∷ standing_good v.standing
        ∷ mood_good v.mood
        ∷ bytes f.counters
        ∷ bytes (parts LENGTHS 5 (lit≤ tt) (lit≤ tt) i)
        ∷ every (row_good_same 0 (lit< tt) i ∷ row_good_same 1 (lit< tt) i ∷ row_good_same 2 (lit< tt) i ∷ row_good_same 3 (lit< tt) i ∷ row_good_same 4 (lit< tt) i ∷ [])
        ∷ []

  -- ---- It is judged the same

  every_same : every (lines (turned b)) ≡ every (lines b)
  every_same = go (counted b) refl
    where
      go : (x : Bool) → counted b ≡ x → every (lines (turned b)) ≡ every (lines b)
      go true e = ap every (lines_same e)
      go false e = sym (wrong_counts (turned b) (counted_same ∙ e)) ∙ wrong_counts b e

  turned_same : get_or b VERSION 0 ≡ 1 → good (turned b) ≡ good1 b
  unfolding good good1
  turned_same v = rw (eq-eqb _ SIZE turned_long, eq-eqb _ CURRENT turned_version, eq-eqb _ BASE long, eq-eqb _ 1 v) every_same

-- ---- The laws

-- 1,330 numbers of version 1 are a good buffer exactly when the turned one is
pub good_turned : (b : List ℕ) → length b ≡ BASE → get_or b VERSION 0 ≡ 1 → good (turned b) ≡ good1 b
good_turned b long v = turned_same b long v

module _ (b : List ℕ) (h : good1 b ≡ true) where
  head1 : (eqb (length b) BASE && eqb (get_or b VERSION 0) 1) ≡ true
  unfolding good1
  head1 = and_left (eqb (length b) BASE && eqb (get_or b VERSION 0) 1) (every (lines b)) h

  long1 : length b ≡ BASE
  long1 = eqb-true (length b) BASE (and_left (eqb (length b) BASE) _ head1)

  -- a good one is turned to a good one
  pub turned_good : good (turned b) ≡ true
  turned_good = good_turned b long1 (eqb-true (get_or b VERSION 0) 1 (and_right (eqb (length b) BASE) _ head1)) ∙ h

  lines1 : (i : ℕ) → get_or (lines b) i true ≡ true
  unfolding good1
  lines1 i = pick (lines b) i (and_right (eqb (length b) BASE && eqb (get_or b VERSION 0) 1) (every (lines b)) h)

  counted1 : counted b ≡ true
  unfolding lines
  counted1 = both_true (lines1 4) (lines1 14)

  -- which holds what it held
  pub view_turned : view (turned b) ≡ view b
  view_turned = view_same b long1 counted1

-- ---- As the code turns it: the places one by one, then the version and the due time

one_place : (d : List ℕ) → length d ≡ 1 → set d 0 0 ≡ 0 ∷ []
one_place [] h = absurd (omega arith)
one_place (x ∷ []) h = refl
one_place (x ∷ y ∷ d) h = absurd (omega arith)

module _ (s x : List ℕ) (ls : length s ≡ BASE) (lx : length x ≡ SIZE) where
  pub copy_end : set (set (s ++ drop BASE x) VERSION CURRENT) DUE 0 ≡ turned s
  unfolding turned
  copy_end =
      let d = drop BASE x in
      let front = set s VERSION CURRENT in
      let due : length front + 0 ≡ DUE = omega (arith, length-set s VERSION CURRENT, ls) in
      ap (λ (l : List ℕ). set l DUE 0) (set-append_left s d VERSION CURRENT (omega (arith, ls)))
      ∙ ap (λ (n : ℕ). set (front ++ d) n 0) (sym due)
      ∙ set_append_add front d 0 0
      ∙ ap (λ (l : List ℕ). front ++ l) (one_place d (simp length-drop (omega (arith, lx))))

-- ---- The call

-- two results that are said are one
pub one_result : {old b x x' : List ℕ} {r r' : Answer} → TurnSays old b r x → TurnSays old b r' x' → (r ≡ r') × (x ≡ x')
one_result p q = (p.answered ∙ sym q.answered, p.left ∙ sym q.left)

module _ (old b : List ℕ) where
  -- refused, and accepted
  pub says_1 : turns old b ≡ false → TurnSays old b (answer 1 0) b
  says_1 h = record { answered = rw h; left = rw h }

  pub says_0 : turns old b ≡ true → {x : List ℕ} → x ≡ turned old → TurnSays old b (answer 0 0) x
  says_0 h e = record { answered = rw h; left = rw h e }

  -- another length is no buffer of version 1
  pub no_length : (length old ≡ BASE → ⊥) → turns old b ≡ false
  unfolding turns
  no_length n = go (good1 old) refl
    where
      go : (x : Bool) → good1 old ≡ x → (good1 old && eqb (length b) SIZE) ≡ false
      go true e = absurd (n (long1 old e))
      go false e = rw e

  module _ {g : Bool} (d : g ≡ good_as BASE 1 old) where
    pub no_version_1 : not g ≡ true → turns old b ≡ false
    unfolding turns good1
    no_version_1 h = rw (sym d ∙ not-true g h)

    is_version_1 : not g ≡ false → good1 old ≡ true
    unfolding good1
    is_version_1 h = sym d ∙ not-false g h

    pub no_room : not g ≡ false → (length b ≡ SIZE → ⊥) → turns old b ≡ false
    unfolding turns
    no_room h n = rw (is_version_1 h, ne_eqb (length b) SIZE n)

    pub can_turn : not g ≡ false → length b ≡ SIZE → turns old b ≡ true
    unfolding turns
    can_turn h e = rw (is_version_1 h, eq-eqb (length b) SIZE e)

-- what an accepted call leaves is a good buffer, which holds what the old one held
pub accepted : {old b x : List ℕ} {r : Answer} → TurnSays old b r x → r.number ≡ 0 → (good1 old ≡ true) × (x ≡ turned old)
unfolding turns
accepted {old} {b} {x} {r} s z = go (turns old b) refl (ap (λ (a : Answer). a.number) (sym s.answered) ∙ z) s.left
  where
    go : (y : Bool) → turns old b ≡ y → ◌≡◌ {A = ℕ} (cond y 0 1) 0 → x ≡ cond y (turned old) b → (good1 old ≡ true) × (x ≡ turned old)
    go true e n l = (and_left (good1 old) _ e, l)
    go false e n l = absurd (omega arith)

-- and a call that is refused, with room for the new one, was given no good buffer of version 1
pub refused_old : {old b x : List ℕ} {r : Answer} → TurnSays old b r x → length b ≡ SIZE → r.number ≢ 0 → good1 old ≡ false
unfolding turns
refused_old {old} {b} {x} {r} s long n = go (good1 old) refl
  where
    go : (y : Bool) → good1 old ≡ y → y ≡ false
    go true e = absurd (n (ap (λ (a : Answer). a.number) s.answered ∙ rw (e, eq-eqb (length b) SIZE long)))
    go false e = refl
