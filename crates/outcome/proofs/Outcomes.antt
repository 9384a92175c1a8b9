-- Outcomes on a good buffer: their answers, and what they leave. Assumes nothing.
use mathlib.Core.Path.{◌≡◌, refl, sym, ap, ◌∙◌}
use mathlib.Core.Bool.{Bool, true, false, cond, ◌&&◌}
use mathlib.Core.List.{List, [], ◌∷◌}
use Prim.Native.Nat.{ℕ, zero, suc, ◌+◌, ◌≤◌, ◌<◌}
use Rattle.std.specs.Prelude.{Result}
use Rattle.std.specs.Result.{IsErrAnd}
use native.Mathlib.Omega.{arith}
use lib.Dec.{lit<, leb, eqb}
use lib.ListN.{length, get_or, set, length-set}
use borrow.Author.Tests.{leb-true}
use Rattle.rules.specs.declared.Answer.{Answer}
use Rattle.rules.specs.Calls.{timed, answer}
use Rattle.rules.specs.declared.Event.{Event}
use Rattle.rules.specs.declared.Event.TheVariants.{Outcome as outcome, Dropped as dropped}
use Rattle.rules.specs.declared.Outcome.TheVariants.{Granted as granted, Silent as silent, Rejected as rejected}
use Rattle.rules.specs.Causes.{action, both, reaches}
use Rattle.rules.specs.Tables.{highest_time, Kind, refusals, mood_on, one_more, four}
use Rattle.rules.specs.Rules.{check, standing, in_range, timely, stands, refusal, wait, failed, verdict, refused, moved, on_granted, on_failed, on_outcome, due_on, acted, changed, enters, adds}
use Rattle.rules.specs.State.{Facts, Services, with_services, with_due}
use Rattle.rules.proofs.Among.{not_among}
use Rattle.rules.proofs.Checks.{is_in_range, in_time, action_low}
use Rattle.refusals.specs.declared.Refusal.{Refusal}
use Rattle.refusals.specs.Refusals.{number_of, told as answered}
use Rattle.std.specs.Prelude.{is_some, Option, Some, None}
use Rattle.std.specs.Option.{ok_or}
use Rattle.refusals.specs.declared.Refusal.TheVariants.{Standing}
use Rattle.refusals.specs.Refusals.{check_of}
use Rattle.std.specs.Bool.{then_some}
use Rattle.services.specs.declared.Service.{Service}
use Rattle.refusals.proofs.Found.{never_zero, passed_on}
use Rattle.buffer.specs.Places.{STANDING, MOOD, DUE}
use Rattle.buffer.specs.Layout.{spread, rows, facts_of, view}
use Rattle.buffer.specs.Good.{good}
use Rattle.buffer.proofs.Segments.{part_at}
use Rattle.buffer.proofs.Laid.{Laid, laid_good, laid_as, laid_standing, laid_mood, laid_due}
use Rattle.clock.specs.Call.{Says}
use Rattle.clock.proofs.Saying.{says_good, says_number, rules_on, moves}
use Rattle.clock.proofs.Leaking.{laid_moved}
use Rattle.backoff.specs.Backoffs.{clear, stored, backed}
use Rattle.backoff.proofs.Backoffs.{laid_stored, laid_backed}
use Rattle.outcome.specs.Outcome.{rested, checked, clocked, served}

-- ---- A service at rest, on a buffer that is laid out

abbrev on_rested : Bool → ℕ → ℕ → ℕ → Services → Services
on_rested two i x m v = record { failures = v.failures; ends = v.ends; standing = set v.standing i x; mood = cond two m v.mood }

module _ {b : List ℕ} {f : Facts} {rs : List (List ℕ)} (l : Laid b f rs) (i : ℕ) (h : i < 4) where
  laid_rested : (x m : ℕ) → Laid (rested b i x m) (with_services f (on_rested (eqb i 2) i x m f.services)) rs
  unfolding rested
  laid_rested x m = go (eqb i 2)
    where
      go : (y : Bool)
          → Laid (cond y (set (set b (STANDING + i) x) MOOD m) (set b (STANDING + i) x)) (with_services f (on_rested y i x m f.services)) rs
      go true = laid_mood (laid_standing l i x h) m
      go false = laid_standing l i x h

-- ---- Four numbers

-- what holds of four by service holds of any four
of_any_four : (P : List ℕ → Type 0) → ((e : ℕ → ℕ) → P (four e)) → (l : List ℕ) → length l ≡ 4 → P l
of_any_four P h (a ∷ b ∷ c ∷ d ∷ []) z = h (λ u. get_or (a ∷ b ∷ c ∷ d ∷ []) u 0)
of_any_four P h [] z = absurd (omega arith)
of_any_four P h (a ∷ []) z = absurd (omega arith)
of_any_four P h (a ∷ b ∷ []) z = absurd (omega arith)
of_any_four P h (a ∷ b ∷ c ∷ []) z = absurd (omega arith)
of_any_four P h (a ∷ b ∷ c ∷ d ∷ x ∷ l) z = absurd (omega arith)

-- `new u n` in the place of service u's number n, where y: of service i, and of services 0 and 1
module _ (new : ℕ → ℕ → ℕ) (y : Bool) where
  one_of_four : (i : ℕ) → i < 4 → (l : List ℕ) → length l ≡ 4
      → cond y (set l i (new i (get_or l i 0))) l ≡ four (λ u. cond (y && reaches false i u) (new u (get_or l u 0)) (get_or l u 0))
  one_of_four i low =
      of_any_four (λ l. cond y (set l i (new i (get_or l i 0))) l ≡ four (λ u. cond (y && eqb i u) (new u (get_or l u 0)) (get_or l u 0)))
      (λ e. go y i low e)
    where
      go : (y : Bool) (i : ℕ) → i < 4 → (e : ℕ → ℕ)
          → cond y (set (four e) i (new i (get_or (four e) i 0))) (four e) ≡ four (λ u. cond (y && eqb i u) (new u (e u)) (e u))
      go false i low e = refl
      go true zero low e = refl
      go true (suc zero) low e = refl
      go true (suc (suc zero)) low e = refl
      go true (suc (suc (suc zero))) low e = refl
      go true (suc (suc (suc (suc i)))) low e = absurd (omega arith)

  abbrev first_new : List ℕ → List ℕ
  first_new l = cond y (set l 0 (new 0 (get_or l 0 0))) l

  two_of_four : (l : List ℕ) → length l ≡ 4
      → cond y (set (first_new l) 1 (new 1 (get_or (first_new l) 1 0))) (first_new l) ≡ four (λ u. cond (y && reaches true 0 u) (new u (get_or l u 0)) (get_or l u 0))
  two_of_four =
      of_any_four (λ l. cond y (set (first_new l) 1 (new 1 (get_or (first_new l) 1 0))) (first_new l) ≡ four (λ u. cond (y && leb u 1) (new u (get_or l u 0)) (get_or l u 0)))
      (λ e. go y e)
    where
      go : (y : Bool) (e : ℕ → ℕ)
          → cond y (set (cond y (set (four e) 0 (new 0 (e 0))) (four e)) 1 (new 1 (get_or (cond y (set (four e) 0 (new 0 (e 0))) (four e)) 1 0))) (cond y (set (four e) 0 (new 0 (e 0))) (four e))
          ≡ four (λ u. cond (y && leb u 1) (new u (e u)) (e u))
      go true e = refl
      go false e = refl

-- ---- What is left

module _ (b : List ℕ) (g : good b ≡ true) (t i : ℕ) (h : i < 4) where
  pub grants : {x y z : List ℕ} → x ≡ clocked b t → y ≡ stored x i clear → z ≡ rested y i (cond (eqb i 2) 2 0) 0
      → z ≡ served b t (on_granted i (facts_of b).services)
  unfolding moved on_granted
  grants p q r = (laid_as (laid_rested (laid_as (laid_stored (laid_moved b g t p) i h clear) q) i h (cond (eqb i 2) 2 0) 0) r).is

  -- after a failure of service i whose answer has number k: it backs off for w seconds
  pub fails : (k m w : ℕ) {y z : List ℕ} → (eqb k 20 ≡ true → w ≡ wait (facts_of b) i) → y ≡ rested (clocked b t) i 0 m → z ≡ backed y t i k w
      → z ≡ served b t (on_failed t i (eqb k 20) false m (facts_of b))
  unfolding moved on_failed
  fails k m w long q r =
      let l = (laid_good b g).shaped in
      (laid_as (laid_backed (laid_as (laid_rested (laid_moved b g t refl) i h 0 m) q) i h t k w) r).is
      ∙ (λ j. served b t (record {
        failures = one_of_four (λ u n. one_more n) (eqb k 20) i h (facts_of b).services.failures l.failures j;
        ends = (until (eqb k 20) refl ∙ one_of_four (λ u n. t + wait (facts_of b) u) (eqb k 20) i h (facts_of b).services.ends l.ends) j;
        standing = set (facts_of b).services.standing i 0;
        mood = cond (eqb i 2) m (facts_of b).services.mood;
      }))
    where
      until : (y : Bool) → eqb k 20 ≡ y → cond y (set (facts_of b).services.ends i (t + w)) (facts_of b).services.ends
          ≡ cond y (set (facts_of b).services.ends i (t + wait (facts_of b) i)) (facts_of b).services.ends
      until true e = ap (λ (w : ℕ). set (facts_of b).services.ends i (t + w)) (long e)
      until false e = refl

  -- both registrations do, for w and v seconds
  pub fails_both : (k m w v : ℕ) {y z z' : List ℕ} → w ≡ wait (facts_of b) 0 → v ≡ wait (facts_of b) 1 → y ≡ rested (clocked b t) i 0 m → z ≡ backed y t 0 k w → z' ≡ backed z t 1 k v
      → z' ≡ served b t (on_failed t i (eqb k 20) true m (facts_of b))
  unfolding moved on_failed
  fails_both k m w v first other q r r' =
      let l = (laid_good b g).shaped in
      (laid_as (laid_backed (laid_as (laid_backed (laid_as (laid_rested (laid_moved b g t refl) i h 0 m) q) 0 (lit< tt) t k w) r) 1 (lit< tt) t k v) r').is
      ∙ (λ j. served b t (record {
        failures = two_of_four (λ u n. one_more n) (eqb k 20) (facts_of b).services.failures l.failures j;
        ends =
            ((λ j. let l = cond (eqb k 20) (set (facts_of b).services.ends 0 (t + first j)) (facts_of b).services.ends in cond (eqb k 20) (set l 1 (t + other j)) l)
            ∙ two_of_four (λ u n. t + wait (facts_of b) u) (eqb k 20) (facts_of b).services.ends l.ends) j;
        standing = set (facts_of b).services.standing i 0;
        mood = cond (eqb i 2) m (facts_of b).services.mood;
      }))

-- after a rejection, by what its cause asks for
pub rejects : (b : List ℕ) (t i cause second column : ℕ) {k m : ℕ} {two : Bool} {a : Answer} {x : List ℕ} → k ≡ action column cause second → two ≡ both column cause → m ≡ mood_on cause
    → a ≡ failed (facts_of b) i k → x ≡ served b t (on_failed t i (eqb a.number 20) two m (facts_of b))
    → (a ≡ failed (facts_of b) i (action column cause second)) × (x ≡ served b t (on_failed t i (eqb a.number 20) (both column cause) (mood_on cause) (facts_of b)))
rejects b t i cause second column {a = a} acts whose mood e p =
    (e ∙ ap (failed (facts_of b) i) acts, p ∙ (λ j. served b t (on_failed t i (eqb a.number 20) (whose j) (mood j) (facts_of b))))

-- it is laid out again
laid_failed : (b : List ℕ) → good b ≡ true → (t i : ℕ) (back two : Bool) (m : ℕ) {x : List ℕ} → x ≡ served b t (on_failed t i back two m (facts_of b))
    → Laid x (with_services (moved t (facts_of b)) (on_failed t i back two m (facts_of b))) (rows (view b).lists)
unfolding moved on_failed
laid_failed b g t i back two m e =
    let s = (laid_good b g).shaped in
    record {
      shaped = record { intervals = s.intervals; failures = refl; ends = refl; standing = length-set (facts_of b).services.standing i 0 ∙ s.standing; counters = refl; five = s.five; short = s.short };
      is = e;
    }

-- a failure is answered, not refused
failed_low : (f : Facts) (i n : ℕ) → 20 ≤ n → refused (failed f i n) ≡ false
unfolding failed
failed_low f i n h = go (eqb n 20) (eqb f.mode.nfm 1)
  where
    go : (x y : Bool) → refused (cond x (cond y (answer 20 (wait f i)) (answer 23 0)) (answer n 0)) ≡ false
    go true true = refl
    go true false = refl
    go false y = not_among n refusals (omega arith)

-- ---- The calls

-- the checks of an outcome, where `asked` is whether its service stands at 1
pub checks_are : (f : Facts) (t : ℕ) (range : Bool) (i : ℕ) {n : ℕ} {time asked : Bool} → n ≡ check range 2 (check time 3 (check asked 4 0))
    → time ≡ timely f t → asked ≡ eqb (standing f i) 1 → n ≡ checked f t range i
checks_are f t range i e p q = e ∙ (λ j. check range 2 (check (p j) 3 (check (q j) 4 0)))

-- where no check fails, there is a service
pub found_passes : (asked : Option Service) (range time : Bool) → 0 ≡ check range 2 (check time 3 (check (is_some asked) 4 0)) → check_of (ok_or asked Standing) ≡ 0
found_passes (Some service) range time e = refl
found_passes None true true e = absurd (omega (arith, e))
found_passes None true false e = absurd (omega (arith, e))
found_passes None false time e = absurd (omega (arith, e))

-- a service is found just where the test passes
pub then_asked : (x : Bool) (service : Service) → is_some (then_some x service) ≡ x
then_asked true service = refl
then_asked false service = refl

pub low : (i : ℕ) → leb i 3 ≡ true → i < 4
low i h = omega (arith, leb-true i 3 h)

pub dropped_refusal : (b : List ℕ) (t n : ℕ) {u : Bool} → n ≡ check true 2 (check u 3 (check (eqb (get_or b (STANDING + 2) 0) 2) 4 0))
    → u ≡ timely (facts_of b) t → n ≡ refusal (facts_of b) (timed t dropped)
unfolding refusal in_range stands facts_of
dropped_refusal b t n d p = d ∙ (λ j. check true 2 (check (p j) 3 (check (eqb (sym (part_at b STANDING 4 2 (lit< tt)) j) 2) 4 0)))

-- the checks of a rejection, where `range` is whether its numbers are in range
pub rejected_refusal : (b : List ℕ) (t n i cause second column : ℕ) {range : Bool} → n ≡ checked (facts_of b) t range i
    → range ≡ in_range (outcome i (rejected cause second column)) → n ≡ refusal (facts_of b) (timed t (outcome i (rejected cause second column)))
unfolding refusal stands
rejected_refusal b t n i cause second column d r = d ∙ ap (λ (x : Bool). checked (facts_of b) t x i) r

-- what a failure is answered is no refusal
pub failed_goes_on : (f : Facts) (i n : ℕ) → 20 ≤ n → {a : Answer} → a ≡ failed f i n → refused a ≡ false
failed_goes_on f i n h e = rw e (failed_low f i n h)

-- a call that a check refuses says so, and is left
pub says_why : (b : List ℕ) → good b ≡ true → (t : ℕ) (e : Event) (r : Result Answer Refusal) (why : Refusal) → IsErrAnd r (λ y. y ≡ why) → number_of why ≡ refusal (facts_of b) (timed t e)
    → Says b (timed t e) (answered r) b
says_why b g t e r why p d = rw (passed_on r why p) (says_number b g t e (number_of why) d (never_zero why))

-- a call that no check refuses
module _ (b : List ℕ) (t : ℕ) (e : Event) (z : refusal (facts_of b) (timed t e) ≡ 0) where
  pub passed_range : in_range e ≡ true
  passed_range = is_in_range (facts_of b) t e z

  pub passed_time : t ≤ highest_time
  passed_time = in_time (facts_of b) t e z

  -- it says its verdict and what the event does, where it adds to no list
  says_event : good b ≡ true → (a : Answer) → verdict (view b) (timed t e) ≡ a → refused a ≡ false → ((k : Kind) → adds k (timed t e) a ≡ [])
      → {x : List ℕ} → x ≡ spread (acted t e a (moved t (facts_of b))) (rows (view b).lists) → Says b (timed t e) a x
  unfolding changed
  says_event g a v r none p =
      let rules = rules_on b g t e (refusal (facts_of b) (timed t e)) refl z ∙ v in
      says_good b g (timed t e) a rules (p ∙ sym (moves b g (timed t e) a rules r none))

module _ (b : List ℕ) (g : good b ≡ true) (t : ℕ) where
  pub says_granted : (i : ℕ) → refusal (facts_of b) (timed t (outcome i granted)) ≡ 0 → {x : List ℕ} → x ≡ served b t (on_granted i (facts_of b).services)
      → Says b (timed t (outcome i granted)) (answer 0 0) x
  unfolding verdict moved acted on_outcome due_on adds enters
  says_granted i z p = says_event b t (outcome i granted) z g (answer 0 0) refl refl (λ k. refl) p

  pub says_dropped : refusal (facts_of b) (timed t dropped) ≡ 0 → {x y : List ℕ} → x ≡ spread (moved t (facts_of b)) (rows (view b).lists)
      → y ≡ set x (STANDING + 2) 0 → Says b (timed t dropped) (answer 0 0) y
  unfolding verdict moved acted on_outcome adds enters
  says_dropped z p q =
      says_event b t dropped z g (answer 0 0) refl refl (λ k. refl)
      (laid_as (laid_standing (laid_moved b g t p) 2 0 (lit< tt)) q).is

  pub says_silent : (i : ℕ) → refusal (facts_of b) (timed t (outcome i silent)) ≡ 0 → {a : Answer} {x : List ℕ} → a ≡ failed (facts_of b) i 20
      → x ≡ served b t (on_failed t i (eqb a.number 20) false 1 (facts_of b)) → Says b (timed t (outcome i silent)) a x
  unfolding verdict moved acted on_outcome on_failed due_on wait adds enters
  says_silent i z {a} e p =
      says_event b t (outcome i silent) z g a (sym e) (rw e (failed_low (facts_of b) i 20 (omega arith))) (λ k. refl) p

  pub says_rejected : (i cause second column : ℕ) → refusal (facts_of b) (timed t (outcome i (rejected cause second column))) ≡ 0 → {u : ℕ} {a : Answer} {x y : List ℕ}
      → u ≡ due_on t (rejected cause 0 column) (facts_of b) → a ≡ failed (facts_of b) i (action column cause second)
      → x ≡ served b t (on_failed t i (eqb a.number 20) (both column cause) (mood_on cause) (facts_of b)) → y ≡ set x DUE u
      → Says b (timed t (outcome i (rejected cause second column))) a y
  unfolding verdict moved acted on_outcome on_failed due_on wait adds enters
  says_rejected i cause second column z {a = a} due e p q =
      let low = failed_low (facts_of b) i (action column cause second) (action_low column cause second) in
      says_event b t (outcome i (rejected cause second column)) z g a (sym e) (rw e low) (λ k. refl)
      ((laid_as (laid_due (laid_failed b g t i (eqb a.number 20) (both column cause) (mood_on cause) p) _) q).is
      ∙ (λ j. spread (with_due (with_services (moved t (facts_of b)) (on_failed t i (eqb a.number 20) (both column cause) (mood_on cause) (facts_of b))) (due j)) (rows (view b).lists)))
