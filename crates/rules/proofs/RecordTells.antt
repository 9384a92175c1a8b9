-- What the rules know after any calls is what the record of those calls tells, thing by thing. Assumes nothing.
use Prim.Native.Nat.{ℕ, suc, ◌+◌, ◌-◌, min, ◌≤◌}
use mathlib.Core.Path.{◌≡◌, refl, sym, ap, ◌∙◌}
use mathlib.Core.Bool.{Bool, true, false, cond, ◌&&◌}
use mathlib.Core.List.{List, [], ◌∷◌, ◌++◌, append-nil}
use lib.Dec.{eqb}
use lib.ListN.{get_or}
use native.Mathlib.Nat.{sub_self}
use native.Mathlib.Omega.{arith}
use Rattle.rules.specs.declared.Answer.{Answer}
use Rattle.rules.specs.Calls.{Opening, Counter, Outcome, Event, ask, outcome, granted, silent, rejected, dropped, tick, Line, nfm, nfm_start, intervals, query, bad, Call, timed, typed, Entry, entry}
use Rattle.rules.specs.Causes.{both, reaches}
use Rattle.rules.specs.Tables.{Kind, wait_for, mood_on, four, six, of_six, rate_of}
use Rattle.rules.specs.Record.{last_time, nfm_now, start_now, intervals_now, permit_in, permits, to_back_off, in_a_row, failures, back_off_end, stands_asked, standing, mood, due_now, leaked, counter}
use Rattle.rules.specs.Rules.{refusal, refused, wait, points, moved, on_granted, on_failed, on_outcome, due_on, acted, switched, obeyed, changed, enters, adds, learn, known}
use Rattle.rules.specs.State.{State, Facts, Mode, with_services, with_due, idle}
use Rattle.rules.specs.Rules.{answers, counted}
use Rattle.rules.specs.Told.{tells, ruled, entered, onward, ruled_all, told, AsTold}
use Rattle.rules.proofs.Checks.{accepted, on_time, refused_adds, outcome_backs}
use Rattle.rules.proofs.Groups.{of_four, of_six_is, four_cond, six_path, four_path, set_four, once_more, end_more, failures_cleared, asked_four, counted_six}
use Rattle.rules.proofs.Leaks.{points_to, one_by_one}

-- facts by their parts, and a path between two that agree on what was settled, on the time, on the
-- mood and on the due time
abbrev facts_of : Opening → Mode → ℕ → (counters failures ends standing : List ℕ) → (mood due : ℕ) → Facts
facts_of o m l c f e s d u =
    record { opening = o; mode = m; last = l; counters = c; services = record { failures = f; ends = e; standing = s; mood = d }; due = u }

facts_path : {c c' f f' e e' s s' : List ℕ} (o : Opening) (m : Mode) (l d u : ℕ) → c ≡ c' → f ≡ f' → e ≡ e' → s ≡ s'
    → facts_of o m l c f e s d u ≡ facts_of o m l c' f' e' s' d u
facts_path o m l d u p q r z i = facts_of o m l (p i) (q i) (r i) (z i) d u

module _ (g : State) (past : List Entry) where
  o : Opening
  o = g.facts.opening

  old : ℕ
  old = last_time g past

  mode : Mode
  mode = record { nfm = nfm_now g past; start = start_now g past; intervals = intervals_now g past }

  -- counter k when the clock goes to t
  left : ℕ → Counter → ℕ
  left t k = leaked o.opened (rate_of o k) old (t - old) (counter g k past)

  drained_one : (t : ℕ) → old ≤ t → (k : Counter) → counter g k past - (points_to o.opened (rate_of o k) t - points_to o.opened (rate_of o k) old) ≡ left t k
  unfolding old left o
  drained_one t h k =
      let e : last_time g past + (t - last_time g past) ≡ t = omega arith in
      ap (λ (x : ℕ). counter g k past - (points_to o.opened (rate_of o k) x - points_to o.opened (rate_of o k) old)) (sym e)
      ∙ sym (one_by_one o.opened (rate_of o k) old (t - old) (counter g k past))

  drained_all : (t : ℕ) → old ≤ t → (moved t (tells g past).facts).counters ≡ six (left t)
  unfolding moved tells points left old o
  drained_all t h = six_path (drained_one t h)

  -- ---- An event at t that was answered a

  module _ (t : ℕ) (a : Answer) (late : old ≤ t) where
    ask_tells : (q : ℕ) → acted t (ask q) a (moved t (tells g past).facts) ≡ (tells g (entry (timed t (ask q)) a ∷ past)).facts
    unfolding acted on_outcome moved tells last_time nfm_now start_now intervals_now in_a_row failures back_off_end standing mood due_now counter left old o mode
    ask_tells q =
        facts_path o mode t (mood g past) (cond (eqb a.number 0 && eqb q 5) 0 (due_now g past)) (ap (counted a.number) (drained_all t late) ∙ counted_six a.number (left t)) refl refl
        (ap (λ (l : List ℕ). cond (eqb a.number 0) l (four (λ s. standing g s past))) (asked_four q (λ s. standing g s past))
        ∙ four_cond (eqb a.number 0) (λ s. stands_asked s q (standing g s past)) (λ s. standing g s past))

    granted_tells : (u : ℕ) → acted t (outcome u granted) a (moved t (tells g past).facts) ≡ (tells g (entry (timed t (outcome u granted)) a ∷ past)).facts
    unfolding acted on_outcome due_on moved tells last_time nfm_now start_now intervals_now in_a_row failures back_off_end standing mood due_now counter left old o mode on_granted
    granted_tells u =
        facts_path o mode t (cond (eqb u 2) 0 (mood g past)) (due_now g past) (drained_all t late)
        (failures_cleared u (λ s. in_a_row g s past))
        (set_four (λ s. 0) (λ s. back_off_end g s past) (λ n. 0) u)
        (set_four (λ s. 0) (λ s. standing g s past) (λ n. cond (eqb u 2) 2 0) u)

    -- silence and rejection of service u; where b, those that they reach back off; d is service 2's mood
    module _ (u : ℕ) (b two : Bool) where
      again : ℕ → Bool
      again s = b && reaches two u s

      row : ℕ → ℕ
      row s = cond (again s) (suc (in_a_row g s past)) (in_a_row g s past)

      failed_tells : (d z : ℕ) → with_due (with_services (moved t (tells g past).facts) (on_failed t u b two d (moved t (tells g past).facts))) z
          ≡ facts_of o mode t (six (left t)) (four (λ s. min (row s) 255))
          (four (λ s. cond (again s) (t + wait_for o.imsi (intervals_now g past) (min (row s) 255)) (back_off_end g s past)))
          (four (λ s. cond (eqb u s) 0 (standing g s past))) (cond (eqb u 2) d (mood g past)) z
      unfolding moved tells failures left old o mode on_failed wait again row
      failed_tells d z =
          facts_path o mode t (cond (eqb u 2) d (mood g past)) z (drained_all t late)
          (four_path (λ s. once_more (again s) (in_a_row g s past)))
          (four_path (λ s. end_more (again s) (in_a_row g s past) (wait_for o.imsi (intervals_now g past)) t (back_off_end g s past)))
          (set_four (λ s. 0) (λ s. standing g s past) (λ n. 0) u)

    outcome_tells : (u : ℕ) (x : Outcome) → eqb a.number 20 ≡ (to_back_off x && eqb (nfm_now g past) 1)
        → acted t (outcome u x) a (moved t (tells g past).facts) ≡ (tells g (entry (timed t (outcome u x)) a ∷ past)).facts
    unfolding acted on_outcome due_on moved tells last_time nfm_now start_now intervals_now in_a_row failures back_off_end standing mood due_now counter left old o mode again row
    outcome_tells u granted h = granted_tells u
    outcome_tells u silent h = rw h (failed_tells u _ false 1 _)
    outcome_tells u (rejected cause second column) h = rw h (failed_tells u _ (both column cause) (mood_on cause) _)

    dropped_tells : acted t dropped a (moved t (tells g past).facts) ≡ (tells g (entry (timed t dropped) a ∷ past)).facts
    unfolding acted on_outcome moved tells last_time nfm_now start_now intervals_now in_a_row failures back_off_end standing mood due_now counter left old o mode
    dropped_tells = facts_path o mode t (mood g past) (due_now g past) (drained_all t late) refl refl (set_four (λ s. 0) (λ s. standing g s past) (λ n. 0) 2)

    tick_tells : acted t tick a (moved t (tells g past).facts) ≡ (tells g (entry (timed t tick) a ∷ past)).facts
    unfolding acted on_outcome moved tells last_time nfm_now start_now intervals_now in_a_row failures back_off_end standing mood due_now counter left old o mode
    tick_tells =
        facts_path o mode t (mood g past) (cond (eqb a.number 12) 0 (due_now g past)) (ap (counted a.number) (drained_all t late) ∙ counted_six a.number (left t)) refl refl
        (four_cond (eqb a.number 12) (λ s. 0) (λ s. standing g s past))

  -- ---- An AT line that was answered a

  -- no time passes, so nothing leaks
  still : (k : Counter) → counter g k past ≡ left old k
  unfolding left old leaked
  still k = rw (sub_self (last_time g past))

  module _ (a : Answer) where
    switched_tells : (b s : ℕ) → switched b s (tells g past).facts
        ≡ facts_of o (record { nfm = b; start = s; intervals = intervals_now g past }) old (six (left old))
        (four (λ s. min (cond (eqb b 0) 0 (in_a_row g s past)) 255)) (four (λ s. cond (eqb b 0) 0 (back_off_end g s past))) (four (λ s. standing g s past)) (mood g past) (due_now g past)
    unfolding switched tells failures old o
    switched_tells b s = go (eqb b 0)
      where
        go : (x : Bool) → facts_of o (record { nfm = b; start = s; intervals = intervals_now g past }) old (six (λ k. counter g k past))
            (cond x idle (four (λ s. min (in_a_row g s past) 255))) (cond x idle (four (λ s. back_off_end g s past))) (four (λ s. standing g s past)) (mood g past) (due_now g past)
            ≡ facts_of o (record { nfm = b; start = s; intervals = intervals_now g past }) old (six (left old))
            (four (λ s. min (cond x 0 (in_a_row g s past)) 255)) (four (λ s. cond x 0 (back_off_end g s past))) (four (λ s. standing g s past)) (mood g past) (due_now g past)
        go true = facts_path o _ old (mood g past) (due_now g past) (six_path still) refl refl refl
        go false = facts_path o _ old (mood g past) (due_now g past) (six_path still) refl refl refl

    line_tells : (l : Line) → obeyed l (tells g past).facts ≡ (tells g (entry (typed l) a ∷ past)).facts
    unfolding obeyed tells last_time nfm_now start_now intervals_now in_a_row failures back_off_end standing mood due_now counter left old o mode
    line_tells (nfm b) = switched_tells b (start_now g past)
    line_tells (nfm_start b s) = switched_tells b s
    line_tells (intervals l) = facts_path o (record { nfm = nfm_now g past; start = start_now g past; intervals = l }) old (mood g past) (due_now g past) (six_path still) refl refl refl
    line_tells query = facts_path o mode old (mood g past) (due_now g past) (six_path still) refl refl refl
    line_tells bad = facts_path o mode old (mood g past) (due_now g past) (six_path still) refl refl refl

  -- ---- The call's own answer

  event_tells : (t : ℕ) (e : Event) → old ≤ t → refusal (tells g past).facts (timed t e) ≡ 0
      → acted t e (ruled g past (timed t e)) (moved t (tells g past).facts) ≡ (tells g (entry (timed t e) (ruled g past (timed t e)) ∷ past)).facts
  unfolding tells
  event_tells t (ask q) h z = ask_tells t _ h q
  event_tells t (outcome u x) h z = outcome_tells t _ h u x (outcome_backs (tells g past) t u x z)
  event_tells t dropped h z = dropped_tells t _ h
  event_tells t tick h z = tick_tells t _ h

  late : (t : ℕ) (e : Event) → refusal (tells g past).facts (timed t e) ≡ 0 → old ≤ t
  unfolding tells old
  late t e = on_time (tells g past).facts t e

  call_tells : (c : Call) → refused (ruled g past c) ≡ false → changed c (ruled g past c) (tells g past).facts ≡ (tells g (entry c (ruled g past c) ∷ past)).facts
  unfolding changed
  call_tells (timed t e) h = let z = accepted (tells g past) (timed t e) h in event_tells t e (late t e z) z
  call_tells (typed l) h = line_tells (ruled g past (typed l)) l

  -- what a call adds to list k
  added : (k : Kind) (c : Call) (a : Answer) → adds k c a ≡ permit_in k c a.number
  unfolding adds enters
  added k (timed t (ask q)) a = refl
  added k (timed t (outcome u o)) a = refl
  added k (timed t dropped) a = refl
  added k (timed t tick) a = refl
  added k (typed l) a = refl

  -- one call: what was known and is learned from its answer is what the record tells that has the call
  learned : (c : Call) → learn (tells g past) c (ruled g past c) ≡ tells g (entered c (ruled g past c) past)
  unfolding learn tells permits
  learned c = go (refused (ruled g past c)) refl
    where
      a : Answer
      a = ruled g past c

      go : (b : Bool) → refused a ≡ b
          → record { facts = cond b (tells g past).facts (changed c a (tells g past).facts); lists = λ k. (tells g past).lists k ++ adds k c a } ≡ tells g (cond b past (entry c a ∷ past))
      go true e = λ i. record { facts = (tells g past).facts; lists = λ k. (ap (λ (l : List ℕ). permits g k past ++ l) (refused_adds k c a e) ∙ append-nil (permits g k past)) i }
      go false e = λ i. record { facts = call_tells c e i; lists = λ k. permits g k past ++ added k c a i }

-- ---- The theorem: after any calls

-- what a record begins with: four of each service's numbers, failures to 255 at most, six counters
pub record Begins (g : State) : Type 0 where
  pub counters : six (of_six g.facts.counters) ≡ g.facts.counters
  pub failures : four (λ s. min (get_or g.facts.services.failures s 0) 255) ≡ g.facts.services.failures
  pub ends : four (λ s. get_or g.facts.services.ends s 0) ≡ g.facts.services.ends
  pub standing : four (λ s. get_or g.facts.services.standing s 0) ≡ g.facts.services.standing

start_tells : (g : State) → Begins g → tells g [] ≡ g
unfolding tells last_time nfm_now start_now intervals_now permits in_a_row failures back_off_end standing mood due_now counter
start_tells g b i = record {
  facts = facts_path g.facts.opening g.facts.mode g.facts.last g.facts.services.mood g.facts.due b.counters b.failures b.ends b.standing i;
  lists = g.lists;
}

onward_tells : (g : State) (past : List Entry) (cs : List Call) → known (tells g past) cs ≡ tells g (onward g past cs)
onward_tells g past [] = refl
onward_tells g past (c ∷ cs) = ap (λ (w : State). known w cs) (learned g past c) ∙ onward_tells g (entered c (ruled g past c) past) cs

pub known_tells : (g : State) → Begins g → (cs : List Call) → known g cs ≡ tells g (told g cs)
known_tells g b cs = rw (start_tells g b) at (onward_tells g [] cs)

onward_answers : (g : State) (past : List Entry) (cs : List Call) → answers (tells g past) cs ≡ ruled_all g past cs
onward_answers g past [] = refl
onward_answers g past (c ∷ cs) =
    ap (λ (l : List Answer). ruled g past c ∷ l)
    (ap (λ (w : State). answers w cs) (learned g past c) ∙ onward_answers g (entered c (ruled g past c) past) cs)

pub answers_told : (g : State) → Begins g → (cs : List Call) → answers g cs ≡ ruled_all g [] cs
answers_told g b cs = rw (start_tells g b) at (onward_answers g [] cs)

-- thing by thing
pub as_told : (g : State) → Begins g → (cs : List Call) → AsTold g cs
unfolding tells
as_told g b cs =
    let e = known_tells g b cs in
    record {
      last = rw e;
      nfm = rw e;
      start_timer = rw e;
      base_intervals = rw e;
      permit_times = λ k. rw e;
      failures_in_a_row = λ s h. rw e (of_four (λ u. failures g u (told g cs)) s h);
      ends = λ s h. rw e (of_four (λ u. back_off_end g u (told g cs)) s h);
      standings = λ s h. rw e (of_four (λ u. standing g u (told g cs)) s h);
      pdp_mood = rw e;
      due_time = rw e;
      counters = λ k. rw e (of_six_is (λ j. counter g j (told g cs)) k);
    }
