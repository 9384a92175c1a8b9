-- A valid state stays valid, whatever the call. Assumes nothing.
use mathlib.Core.Path.{◌≡◌, refl, sym, ◌∙◌}
use mathlib.Core.Bool.{Bool, true, false, cond, ◌&&◌, false≢true}
use mathlib.Core.List.{List, [], ◌∷◌, ◌++◌, append-nil}
use Prim.Native.Nat.{ℕ, zero, suc, ◌+◌, ◌-◌, ◌≤◌, ◌<◌, min}
use native.Mathlib.Nat.{mod-lt}
use native.Mathlib.Omega.{arith}
use lib.Dec.{leb, eqb}
use lib.ListN.{length, get_or, set, drop, length-set, length-drop}
use lib.Seq.{get_or-set_same, get_or-set_other}
use borrow.Author.Tests.{leb-true, le-leb, eqb-true, eqb-false, eq-eqb}
use Rattle.rules.specs.declared.Answer.{Answer}
use Rattle.rules.specs.Calls.{Line, nfm, nfm_start, intervals, query, bad, Call, timed, typed}
use Rattle.rules.specs.declared.Event.{Event}
use Rattle.rules.specs.declared.Event.TheVariants.{Ask as ask, Outcome as outcome, Dropped as dropped, Tick as tick}
use Rattle.rules.specs.declared.Outcome.TheVariants.{Granted as granted, Silent as silent, Rejected as rejected}
use Rattle.mixing.specs.Mixing.{drawn}
use Rattle.rules.specs.Causes.{action, both, reaches}
use Rattle.rules.specs.Tables.{highest_time, Kind, among, counting, mood_on, one_more, interval, wait_for, ascending, scheduled, four}
use Rattle.rules.specs.Rules.{check, refusal, wait, failed, verdict, ruling, refused, moved, raised, counted, asked, on_granted, on_failed, on_outcome, due_on, acted, switched, obeyed, changed, enters, adds, learn, newest, short, step}
use Rattle.rules.specs.State.{State, Facts, Services, with_counters, with_services, with_due, with_standing, idle}
use Rattle.rules.proofs.Checks.{accepted, on_time, in_time, passed_verdict, refused_adds, failed_backs}
use Rattle.rules.proofs.Newest.{changed_keeps}
use Rattle.buffer.specs.Good.{at_most, zeros, bytes, highest_end, valid}
use Rattle.rules.proofs.Checks.{and_left, and_right}
use Rattle.buffer.proofs.Goodness.{each_at_most}
use Rattle.buffer.proofs.Sane.{highest, SaneServices, SaneCounters, Sane, Valid, valid_facts, facts_valid}

-- ---- Lists of numbers

pub get_d_set : (l : List ℕ) (u s v : ℕ) → s < length l → get_or (set l u v) s 0 ≡ cond (eqb u s) v (get_or l s 0)
get_d_set l u s v h = go (eqb u s) refl
  where
    go : (b : Bool) → eqb u s ≡ b → get_or (set l u v) s 0 ≡ cond b v (get_or l s 0)
    go true e = rw (eqb-true u s e) (get_or-set_same l s v 0 h)
    go false e = get_or-set_other l u s v 0 (λ z. eqb-false u s e (sym z))

at_most_set : (hi : ℕ) (l : List ℕ) (i x : ℕ) → at_most hi l ≡ true → x ≤ hi → at_most hi (set l i x) ≡ true
unfolding at_most
at_most_set hi [] i x h g = refl
at_most_set hi (y ∷ l) zero x h g = rw (le-leb x hi g) (and_right (leb y hi) (at_most hi l) h)
at_most_set hi (y ∷ l) (suc i) x h g = rw (and_left (leb y hi) (at_most hi l) h) (at_most_set hi l i x (and_right (leb y hi) (at_most hi l) h) g)

pub at_most_cons : (hi x : ℕ) (l : List ℕ) → x ≤ hi → at_most hi l ≡ true → at_most hi (x ∷ l) ≡ true
unfolding at_most
at_most_cons hi x l h g = rw (le-leb x hi h) g

pub at_most_nil : (hi : ℕ) → at_most hi [] ≡ true
unfolding at_most
at_most_nil hi = refl

-- ---- Lists that rise

pub ascending_nil : (lo hi : ℕ) → ascending lo hi [] ≡ true
unfolding ascending
ascending_nil lo hi = refl

ascending_cons : (lo hi x : ℕ) (l : List ℕ) → lo ≤ x → x ≤ hi → ascending x hi l ≡ true → ascending lo hi (x ∷ l) ≡ true
unfolding ascending
ascending_cons lo hi x l h g e = rw (le-leb lo x h, le-leb x hi g) e

record Head (lo hi x : ℕ) (l : List ℕ) : Type 0 where
  low : lo ≤ x
  high : x ≤ hi
  rest : ascending x hi l ≡ true

ascending_head : (lo hi x : ℕ) (l : List ℕ) → ascending lo hi (x ∷ l) ≡ true → Head lo hi x l
unfolding ascending
ascending_head lo hi x l e =
    let r = and_right (leb lo x) _ e in
    record { low = leb-true lo x (and_left (leb lo x) _ e); high = leb-true x hi (and_left (leb x hi) _ r); rest = and_right (leb x hi) _ r }

ascending_less : (lo lo' hi : ℕ) (l : List ℕ) → lo ≤ lo' → ascending lo' hi l ≡ true → ascending lo hi l ≡ true
ascending_less lo lo' hi [] h e = ascending_nil lo hi
ascending_less lo lo' hi (x ∷ l) h e = let d = ascending_head lo' hi x l e in ascending_cons lo hi x l (omega arith) d.high d.rest

ascending_more : (lo hi hi' : ℕ) (l : List ℕ) → hi ≤ hi' → ascending lo hi l ≡ true → ascending lo hi' l ≡ true
ascending_more lo hi hi' [] h e = ascending_nil lo hi'
ascending_more lo hi hi' (x ∷ l) h e = let d = ascending_head lo hi x l e in ascending_cons lo hi' x l d.low (omega arith) (ascending_more x hi hi' l h d.rest)

ascending_snoc : (lo hi t : ℕ) (l : List ℕ) → lo ≤ hi → hi ≤ t → ascending lo hi l ≡ true → ascending lo t (l ++ (t ∷ [])) ≡ true
ascending_snoc lo hi t [] o h e = ascending_cons lo t t [] (omega arith) (omega arith) (ascending_nil t t)
ascending_snoc lo hi t (x ∷ l) o h e =
    let d = ascending_head lo hi x l e in
    ascending_cons lo t x (l ++ (t ∷ [])) d.low (omega arith) (ascending_snoc x hi t l d.high h d.rest)

ascending_drop : (n lo hi : ℕ) (l : List ℕ) → ascending lo hi l ≡ true → ascending lo hi (drop n l) ≡ true
ascending_drop zero lo hi l e = e
ascending_drop (suc n) lo hi [] e = e
ascending_drop (suc n) lo hi (x ∷ l) e = let d = ascending_head lo hi x l e in ascending_drop n lo hi l (ascending_less lo x hi l d.low d.rest)

ascending_newest : (lo hi : ℕ) (l : List ℕ) → ascending lo hi l ≡ true → ascending lo hi (newest l) ≡ true
unfolding newest
ascending_newest lo hi l e = ascending_drop (length l - 255) lo hi l e

ascending_at : (lo hi : ℕ) (l : List ℕ) (i : ℕ) → ascending lo hi l ≡ true → i < length l → (lo ≤ get_or l i 0) × (get_or l i 0 ≤ hi)
ascending_at lo hi [] i e h = absurd (omega arith)
ascending_at lo hi (x ∷ l) zero e h = let d = ascending_head lo hi x l e in (d.low, d.high)
ascending_at lo hi (x ∷ l) (suc i) e h =
    let d = ascending_head lo hi x l e in
    let r = ascending_at x hi l i d.rest (omega arith) in
    (omega (arith, d.low), r.1)

-- the newest of a list after an accepted call at t
listed : (o b t : ℕ) (l : List ℕ) (x : Bool) → o ≤ b → b ≤ t → ascending o b l ≡ true → ascending o t (newest (l ++ cond x (t ∷ []) [])) ≡ true
listed o b t l true p h e = ascending_newest o t _ (ascending_snoc o b t l p h e)
listed o b t l false p h e = ascending_newest o t _ (rw append-nil (ascending_more o b t l h e))

-- ---- Services

-- a store that keeps a bound on each place
set_below : (f : ℕ → ℕ) (l : List ℕ) (q x : ℕ) → x ≤ f q → ((s : ℕ) → get_or l s 0 ≤ f s) → (s : ℕ) → get_or (set l q x) s 0 ≤ f s
set_below f [] q x g h s = h s
set_below f (y ∷ l) zero x g h zero = g
set_below f (y ∷ l) zero x g h (suc s) = h (suc s)
set_below f (y ∷ l) (suc q) x g h zero = h 0
set_below f (y ∷ l) (suc q) x g h (suc s) = set_below (λ r. f (suc r)) l q x g (λ r. h (suc r)) s

one_low : (q : ℕ) → 1 ≤ highest q
one_low q = go (eqb q 2)
  where
    go : (b : Bool) → 1 ≤ cond b 2 1
    go true = omega arith
    go false = omega arith

module _ (n : ℕ) (v : Services) (h : SaneServices n v) where
  -- service q stands at x; where that is up, no end of service 2 is left
  stands_at : (q x : ℕ) → x ≤ highest q → (x ≡ 2 → get_or v.ends 2 0 ≡ 0) → SaneServices n (with_standing v (set v.standing q x))
  stands_at q x g up = record {
    four_failures = h.four_failures;
    four_ends = h.four_ends;
    four_standing = length-set v.standing q x ∙ h.four_standing;
    failures = h.failures;
    ends = h.ends;
    off = h.off;
    free = λ e. free (eqb q 2) (rw (get_d_set v.standing q 2 x (omega (arith, h.four_standing))) at e);
    standing = set_below highest v.standing q x g h.standing;
    mood = h.mood;
  }
    where
      free : (b : Bool) → cond b x (get_or v.standing 2 0) ≡ 2 → get_or v.ends 2 0 ≡ 0
      free true e = up e
      free false e = h.free e

  -- not up
  stands_low : (q x : ℕ) → x ≤ 1 → SaneServices n (with_standing v (set v.standing q x))
  stands_low q x g = stands_at q x (omega (arith, one_low q)) (λ e. absurd (omega arith))

  all_idle : SaneServices n (with_standing v idle)
  all_idle = record {
    four_failures = h.four_failures;
    four_ends = h.four_ends;
    four_standing = refl;
    failures = h.failures;
    ends = h.ends;
    off = h.off;
    free = λ e. absurd (omega arith);
    standing = low;
    mood = h.mood;
  }
    where
      low : (s : ℕ) → get_or idle s 0 ≤ highest s
      low zero = omega arith
      low (suc zero) = omega arith
      low (suc (suc zero)) = omega arith
      low (suc (suc (suc zero))) = omega arith
      low (suc (suc (suc (suc s)))) = omega arith

  -- a permit of request q, where b holds
  asked_sane : (q : ℕ) (b : Bool) → SaneServices n (with_standing v (cond b (asked q v.standing) v.standing))
  unfolding asked
  asked_sane q false = h
  asked_sane q true = go (leb q 3) (eqb q 4)
    where
      go : (x y : Bool) → SaneServices n (with_standing v (cond x (set v.standing q 1) (cond y (set v.standing 2 0) idle)))
      go true y = stands_low q 1 (omega arith)
      go false true = stands_low 2 0 (omega arith)
      go false false = all_idle

  -- other failures, ends and mood
  with_failures : (l e : List ℕ) (d : ℕ) → length l ≡ 4 → bytes l ≡ true → length e ≡ 4 → at_most highest_end e ≡ true → (eqb n 1 ≡ false → zeros e ≡ true)
      → (get_or v.standing 2 0 ≡ 2 → get_or e 2 0 ≡ 0) → d ≤ 3 → SaneServices n (record { failures = l; ends = e; standing = v.standing; mood = d })
  with_failures l e d four small four' low off free m = record {
    four_failures = four;
    four_ends = four';
    four_standing = h.four_standing;
    failures = small;
    ends = low;
    off = off;
    free = free;
    standing = h.standing;
    mood = m;
  }

cond_le : (b : Bool) (x y m : ℕ) → x ≤ m → y ≤ m → cond b x y ≤ m
cond_le true x y m h g = h
cond_le false x y m h g = g

-- service s was granted
granted_sane : (n : ℕ) (v : Services) (s : ℕ) → SaneServices n v → SaneServices n (on_granted s v)
unfolding on_granted
granted_sane n v s h = stands_at n cleared clear s (cond (eqb s 2) 2 0) (low (eqb s 2)) up
  where
    cleared : Services
    cleared = record { failures = set v.failures s 0; ends = set v.ends s 0; standing = v.standing; mood = cond (eqb s 2) 0 v.mood }

    end_2 : get_or (set v.ends s 0) 2 0 ≡ cond (eqb s 2) 0 (get_or v.ends 2 0)
    end_2 = get_d_set v.ends s 2 0 (omega (arith, h.four_ends))

    still : (b : Bool) → get_or v.ends 2 0 ≡ 0 → cond b 0 (get_or v.ends 2 0) ≡ 0
    still true e = refl
    still false e = e

    clear : SaneServices n cleared
    clear =
        with_failures n v h (set v.failures s 0) (set v.ends s 0) (cond (eqb s 2) 0 v.mood)
        (length-set v.failures s 0 ∙ h.four_failures)
        (at_most_set 255 v.failures s 0 h.failures (omega arith))
        (length-set v.ends s 0 ∙ h.four_ends)
        (at_most_set highest_end v.ends s 0 h.ends (omega arith))
        (λ e. at_most_set 0 v.ends s 0 (h.off e) (omega arith))
        (λ e. end_2 ∙ still (eqb s 2) (h.free e))
        (cond_le (eqb s 2) 0 v.mood 3 (omega arith) h.mood)

    low : (b : Bool) → cond b 2 0 ≤ cond b 2 1
    low true = omega arith
    low false = omega arith

    up : ◌≡◌ {A = ℕ} (cond (eqb s 2) 2 0) 2 → get_or (set v.ends s 0) 2 0 ≡ 0
    up e = rw end_2 (go (eqb s 2) e)
      where
        go : (b : Bool) → ◌≡◌ {A = ℕ} (cond b 2 0) 2 → cond b 0 (get_or v.ends 2 0) ≡ 0
        go true e = refl
        go false e = absurd (omega arith)

-- four numbers, each at most hi
four_most : (hi : ℕ) (f : ℕ → ℕ) → ((u : ℕ) → f u ≤ hi) → at_most hi (four f) ≡ true
unfolding at_most
four_most hi f h = rw (le-leb (f 0) hi (h 0), le-leb (f 1) hi (h 1), le-leb (f 2) hi (h 2), le-leb (f 3) hi (h 3))

-- silence or a rejection of service s at t; `back` is whether those that it reaches back off
module _ (f : Facts) (t s : ℕ) (back two : Bool) (d : ℕ) (h : SaneServices f.mode.nfm f.services) where
  on_two : (b : Bool) → b ≡ false → (x y : ℕ) → cond (back && b) x y ≡ y
  on_two b e x y = rw e (go back)
    where
      go : (z : Bool) → cond (z && false) x y ≡ y
      go true = refl
      go false = refl

  -- where service 2 is up afterwards, it was up before, and was not reached
  still_up : (x : ℕ) → get_or (set f.services.standing s 0) 2 0 ≡ 2 → cond (back && reaches two s 2) x (get_or f.services.ends 2 0) ≡ 0
  still_up x e = go (eqb s 2) two (rw (get_d_set f.services.standing s 2 0 (omega (arith, h.four_standing))) at e)
    where
      go : (b z : Bool) → cond b 0 (get_or f.services.standing 2 0) ≡ 2 → cond (back && cond z false b) x (get_or f.services.ends 2 0) ≡ 0
      go true z e = absurd (omega arith)
      go false true e = on_two false refl x _ ∙ h.free e
      go false false e = on_two false refl x _ ∙ h.free e

  failed_sane : d ≤ 3 → (back ≡ true → eqb f.mode.nfm 1 ≡ true) → ((u : ℕ) → t + wait f u ≤ highest_end) → SaneServices f.mode.nfm (on_failed t s back two d f)
  unfolding on_failed
  failed_sane low on early =
      let v = f.services in
      with_failures f.mode.nfm (with_standing v (set v.standing s 0)) (stands_low f.mode.nfm v h s 0 (omega arith)) _ _ (cond (eqb s 2) d v.mood)
      refl
      (four_most 255 _ (λ u. cond_le (back && reaches two s u) (one_more (get_or v.failures u 0)) _ 255 (omega arith) (each_at_most 255 v.failures h.failures u)))
      refl
      (four_most highest_end _ (λ u. cond_le (back && reaches two s u) _ _ highest_end (early u) (each_at_most highest_end v.ends h.ends u)))
      (λ e. off back refl e)
      (still_up (t + wait f 2))
      (cond_le (eqb s 2) d v.mood 3 low h.mood)
    where
      off : (b : Bool) → back ≡ b → eqb f.mode.nfm 1 ≡ false
          → zeros (four (λ u. cond (back && reaches two s u) (t + wait f u) (get_or f.services.ends u 0))) ≡ true
      off true p e = absurd (false≢true (sym e ∙ on p))
      off false p e = rw p (four_most 0 (λ u. get_or f.services.ends u 0) (each_at_most 0 f.services.ends (h.off e)))

-- ---- Facts: the clock, the counters, the services

bytes_6 : (a b c d e f : ℕ) → a ≤ 255 → b ≤ 255 → c ≤ 255 → d ≤ 255 → e ≤ 255 → f ≤ 255 → bytes (a ∷ b ∷ c ∷ d ∷ e ∷ f ∷ []) ≡ true
unfolding at_most
bytes_6 a b c d e f h1 h2 h3 h4 h5 h6 = rw (le-leb a 255 h1, le-leb b 255 h2, le-leb c 255 h3, le-leb d 255 h4, le-leb e 255 h5, le-leb f 255 h6)

moved_sane : (f : Facts) (t : ℕ) → Sane f → f.last ≤ t → t ≤ highest_time → Sane (moved t f)
unfolding moved
moved_sane f t s h g =
    let c = each_at_most 255 f.counters s.counters.small in
    record {
      opening = s.opening;
      mode = s.mode;
      late = omega (arith, s.late);
      early = g;
      counters = record {
        six = refl;
        small = bytes_6 _ _ _ _ _ _ (omega (arith, c 0)) (omega (arith, c 1)) (omega (arith, c 2)) (omega (arith, c 3)) (omega (arith, c 4)) (omega (arith, c 5));
      };
      services = s.services;
    }

counted_sane : (n : ℕ) (l : List ℕ) → SaneCounters l → SaneCounters (counted n l)
unfolding counted
counted_sane n l h = go (among n counting)
  where
    up : (i : ℕ) → SaneCounters (raised i l)
    up i = let x = one_more (get_or l i 0) in record { six = length-set l i x ∙ h.six; small = at_most_set 255 l i x h.small (omega arith) }

    go : (x : Bool) → SaneCounters (cond x (raised (n - 11) l) l)
    go true = up (n - 11)
    go false = h

-- other counters and services, and any due time
with_sane : (f : Facts) (l : List ℕ) (v : Services) (d : ℕ) → Sane f → SaneCounters l → SaneServices f.mode.nfm v
    → Sane (with_due (with_services (with_counters f l) v) d)
with_sane f l v d s c h = record { opening = s.opening; mode = s.mode; late = s.late; early = s.early; counters = c; services = h }

-- ---- The wait is at most 131,069

pub interval_range : (f : Facts) → Sane f → (n : ℕ) → 1 ≤ n → (1 ≤ interval f.mode.intervals n) × (interval f.mode.intervals n ≤ 65535)
interval_range f h n p = let l = f.mode.intervals in ascending_at 1 65535 l (min n (length l) - 1) h.mode.rising (omega (arith, h.mode.some))

pub wait_low : (f : Facts) (s : ℕ) → Sane f → wait f s ≤ 131069
unfolding wait wait_for
wait_low f s h =
    let l = f.mode.intervals in
    let n = one_more (get_or f.services.failures s 0) in
    let r = interval_range f h n (omega arith) in
    let m = mod-lt (drawn f.opening.imsi n) {m = interval l n} (omega (arith, r.0)) in
    omega (arith, r.1, m)

-- an answer 20 tells that NFM is 1
on_backs : (f : Facts) (t s n : ℕ) (a : Answer) → a ≡ failed f s n → eqb a.number 20 ≡ true → eqb (moved t f).mode.nfm 1 ≡ true
unfolding moved
on_backs f t s n a e k = and_right (eqb n 20) _ (sym (failed_backs f s n) ∙ (rw e at k))

-- ---- Events

mood_low : (cause : ℕ) → mood_on cause ≤ 3
unfolding mood_on
mood_low cause = cond_le (among cause (8 ∷ 27 ∷ 28 ∷ 29 ∷ 32 ∷ 33 ∷ [])) 2 3 3 (omega arith) (omega arith)

acted_sane : (v : State) (t : ℕ) (e : Event) → Sane v.facts → v.facts.last ≤ t → t ≤ highest_time → (a : Answer) → a ≡ verdict v (timed t e) → Sane (acted t e a (moved t v.facts))
unfolding acted on_outcome due_on asked verdict
acted_sane v t e h p g a d = go e d
  where
    m : Sane (moved t v.facts)
    m = moved_sane v.facts t h p g

    served : (u : Services) (d : ℕ) → SaneServices (moved t v.facts).mode.nfm u
        → Sane (with_due (with_services (moved t v.facts) u) d)
    served u d w = with_sane (moved t v.facts) (moved t v.facts).counters u d m m.counters w

    -- a permit of request q, or a reset that is ordered
    sends : (q : ℕ) (b : Bool) (d : ℕ)
        → Sane (with_due (with_services (with_counters (moved t v.facts) (counted a.number (moved t v.facts).counters))
        (with_standing (moved t v.facts).services (cond b (asked q (moved t v.facts).services.standing) (moved t v.facts).services.standing))) d)
    sends q b d = with_sane (moved t v.facts) _ _ d m (counted_sane a.number _ m.counters) (asked_sane _ _ m.services q b)

    ends : (u : ℕ) → t + wait (moved t v.facts) u ≤ highest_end
    ends u = omega (arith, wait_low (moved t v.facts) u m)

    go : (e : Event) → a ≡ verdict v (timed t e) → Sane (acted t e a (moved t v.facts))
    go (ask q) d = sends q (eqb a.number 0) _
    go (outcome s granted) d = served _ _ (granted_sane _ _ s m.services)
    go (outcome s silent) d = served _ _ (failed_sane (moved t v.facts) t s _ false 1 m.services (omega arith) (on_backs v.facts t s 20 a d) ends)
    go (outcome s (rejected cause second column)) d =
        served _ _ (failed_sane (moved t v.facts) t s _ (both column cause) (mood_on cause) m.services (mood_low cause) (on_backs v.facts t s (action column cause second) a d) ends)
    go dropped d = served _ (moved t v.facts).due (stands_low _ _ m.services 2 0 (omega arith))
    go tick d = sends 5 (eqb a.number 12) _

-- ---- AT lines

one_of : (a : ℕ) → a ≤ 1 → eqb a 0 ≡ false → eqb a 1 ≡ true
one_of a h e = let z = eqb-false a 0 e in eq-eqb a 1 (omega arith)

switched_sane : (f : Facts) (a s : ℕ) → Sane f → a ≤ 1 → s ≤ 1 → Sane (switched a s f)
unfolding switched at_most
switched_sane f a s h g k = record {
  opening = h.opening;
  mode = record { nfm = g; start = k; some = h.mode.some; few = h.mode.few; rising = h.mode.rising };
  late = h.late;
  early = h.early;
  counters = h.counters;
  services = go (eqb a 0) refl;
}
  where
    w : SaneServices f.mode.nfm f.services
    w = h.services

    go : (b : Bool) → eqb a 0 ≡ b
        → SaneServices a (record { failures = cond b idle f.services.failures; ends = cond b idle f.services.ends; standing = f.services.standing; mood = f.services.mood })
    go true e = record {
      four_failures = refl;
      four_ends = refl;
      four_standing = w.four_standing;
      failures = refl;
      ends = refl;
      off = λ z. refl;
      free = λ z. refl;
      standing = w.standing;
      mood = w.mood;
    }
    go false e = record {
      four_failures = w.four_failures;
      four_ends = w.four_ends;
      four_standing = w.four_standing;
      failures = w.failures;
      ends = w.ends;
      off = λ z. absurd (false≢true (sym z ∙ one_of a g e));
      free = w.free;
      standing = w.standing;
      mood = w.mood;
    }

checked : (x : Bool) → check x 5 0 ≡ 0 → x ≡ true
checked true e = refl
checked false e = absurd (omega arith)

obeyed_sane : (f : Facts) (l : Line) → Sane f → refusal f (typed l) ≡ 0 → Sane (obeyed l f)
unfolding obeyed refusal
obeyed_sane f (nfm a) h e = switched_sane f a f.mode.start h (leb-true a 1 (checked (leb a 1) e)) h.mode.start
obeyed_sane f (nfm_start a s) h e =
    let g = checked (leb a 1 && leb s 1) e in
    switched_sane f a s h (leb-true a 1 (and_left (leb a 1) (leb s 1) g)) (leb-true s 1 (and_right (leb a 1) (leb s 1) g))
obeyed_sane f (intervals l) h e =
    let g = checked (scheduled l) e in
    let n = and_left (leb 1 (length l) && leb (length l) 10) (ascending 1 65535 l) g in
    record {
      opening = h.opening;
      mode = record {
        nfm = h.mode.nfm;
        start = h.mode.start;
        some = leb-true 1 (length l) (and_left (leb 1 (length l)) _ n);
        few = leb-true (length l) 10 (and_right (leb 1 (length l)) _ n);
        rising = and_right (leb 1 (length l) && leb (length l) 10) (ascending 1 65535 l) g;
      };
      late = h.late;
      early = h.early;
      counters = h.counters;
      services = h.services;
    }
obeyed_sane f query h e = h
obeyed_sane f bad h e = h

-- ---- Every call

newest_short : (l : List ℕ) → length (newest l) ≤ 255
unfolding newest
newest_short l = simp length-drop (omega arith)

-- a list of at most 255 is all new
pub newest_all : (l : List ℕ) → length l ≤ 255 → newest l ≡ l
unfolding newest
newest_all l h = let e : length l - 255 ≡ 0 = omega arith in rw e

module _ (v : State) (h : Valid v) where
  -- lists to which nothing is added
  kept_rising : (f : Facts) → f.opening ≡ v.facts.opening → f.last ≡ v.facts.last → (k : Kind) (l : List ℕ) → l ≡ [] → ascending f.opening.opened f.last (newest (v.lists k ++ l)) ≡ true
  kept_rising f p q k l e = rw (p, q, e, append-nil, newest_all (v.lists k) (h.short k)) (h.rising k)

  accepted_valid : (c : Call) (a : Answer) → a ≡ verdict v c → refusal v.facts c ≡ 0 → Valid (record { facts = changed c a v.facts; lists = λ k. newest (v.lists k ++ adds k c a) })
  unfolding changed adds
  accepted_valid (timed t e) a d p =
      let late = on_time v.facts t e p in
      let keeps = changed_keeps (timed t e) a v.facts in
      record {
        sane = acted_sane v t e h.sane late (in_time v.facts t e p) a d;
        short = λ k. newest_short _;
        rising = λ k. rw (keeps.0, keeps.1) (listed _ _ t (v.lists k) (enters e a.number k) h.sane.late late (h.rising k));
      }
  accepted_valid (typed l) a d p =
      let keeps = changed_keeps (typed l) a v.facts in
      record { sane = obeyed_sane v.facts l h.sane p; short = λ k. newest_short _; rising = λ k. kept_rising (obeyed l v.facts) keeps.0 keeps.1 k [] refl }

  stays : (c : Call) → Valid (step v c)
  unfolding step short learn
  stays c = go (refused (ruling v c)) refl
    where
      a : Answer
      a = ruling v c

      go : (b : Bool) → refused a ≡ b → Valid (record { facts = cond b v.facts (changed c a v.facts); lists = λ k. newest (v.lists k ++ adds k c a) })
      go true e = record { sane = h.sane; short = λ k. newest_short _; rising = λ k. kept_rising v.facts refl refl k _ (refused_adds k c a e) }
      go false e = let p = accepted v c e in accepted_valid c a (passed_verdict v c p) p

-- a valid state stays valid
pub keep : (v : State) → valid v ≡ true → (c : Call) → valid (step v c) ≡ true
keep v h c = facts_valid (step v c) (stays v (valid_facts v h) c)
