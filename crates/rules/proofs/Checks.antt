-- What the number of an answer tells of the checks. Assumes nothing.
use Prim.Native.Nat.{ℕ, ◌≤◌, ◌<◌}
use mathlib.Core.Path.{◌≡◌, refl, sym, ap, ◌∙◌}
use mathlib.Core.Bool.{Bool, true, false, cond, ◌&&◌, false≢true}
use mathlib.Core.List.{List, [], ◌++◌, append-nil}
use mathlib.Core.Logic.{◌≢◌}
use lib.Dec.{leb, eqb}
use borrow.Author.Tests.{leb-true, le-leb, eqb-false, eqb-true}
use native.Mathlib.Omega.{arith}
use Rattle.rules.specs.declared.Answer.{Answer}
use Rattle.rules.specs.Calls.{Outcome, Event, ask, outcome, dropped, tick, granted, silent, rejected, nfm, nfm_start, intervals, query, bad, Call, timed, typed, answer}
use Rattle.rules.specs.Causes.{Action, back_off, both_back_off, re_attach, other_network, as_3GPP, not_same_PLMN, not_same_area, not_same_cell, reactivate, re_establish, printed, number_of, action}
use Rattle.rules.specs.Tables.{highest_time, Kind, among, refusals, scheduled}
use Rattle.rules.specs.Rules.{check, in_range, timely, stands, refusal, wait, failed, verdict, ruling, refused, changed, enters, adds, learn}
use Rattle.rules.specs.State.{State, Facts}
use Rattle.rules.specs.Record.{to_back_off}
use Rattle.rules.proofs.Among.{among_all}

pub and_left : (x y : Bool) → (x && y) ≡ true → x ≡ true
and_left true y e = refl
and_left false y e = e

pub and_right : (x y : Bool) → (x && y) ≡ true → y ≡ true
and_right true y e = e
and_right false y e = absurd (false≢true e)

-- ---- The first check that fails has a refusal's number

-- 0, or a refusal
abbrev Refusal : ℕ → Type 0
Refusal n = n ≢ 0 → among n refusals ≡ true

first : (x : Bool) (n rest : ℕ) → Refusal n → Refusal rest → Refusal (check x n rest)
first true n rest h g = g
first false n rest h g = h

none : Refusal 0
none h = absurd (h refl)

pub refusal_listed : (f : Facts) (c : Call) → refusal f c ≢ 0 → among (refusal f c) refusals ≡ true
unfolding refusal
refusal_listed f (timed t e) = first (in_range e) 2 _ (λ h. refl) (first (timely f t) 3 _ (λ h. refl) (first (stands f e) 4 0 (λ h. refl) none))
refusal_listed f (typed (nfm a)) = first (leb a 1) 5 0 (λ h. refl) none
refusal_listed f (typed (nfm_start a s)) = first (leb a 1 && leb s 1) 5 0 (λ h. refl) none
refusal_listed f (typed (intervals l)) = first (scheduled l) 5 0 (λ h. refl) none
refusal_listed f (typed query) = none
refusal_listed f (typed bad) = λ h. refl

-- refusals are below the numbers of rules and actions
pub refusal_low : (f : Facts) (c : Call) → refusal f c < 10
refusal_low f c = go (eqb n 0) refl
  where
    n : ℕ
    n = refusal f c

    go : (b : Bool) → eqb n 0 ≡ b → n < 10
    go true p = rw (eqb-true n 0 p) (omega arith)
    go false p = among_all (λ m. m < 10) n refusals (omega arith) (refusal_listed f c (eqb-false n 0 p))

-- an answer that is no refusal comes from a call that passed the checks, and so does a permit
pub accepted : (w : State) (c : Call) → refused (ruling w c) ≡ false → refusal w.facts c ≡ 0
unfolding ruling
accepted w c e = go (eqb (refusal w.facts c) 0) refl e
  where
    n : ℕ
    n = refusal w.facts c

    go : (b : Bool) → eqb n 0 ≡ b → refused (cond b (verdict w c) (answer n 0)) ≡ false → n ≡ 0
    go true p e = eqb-true n 0 p
    go false p e =
        absurd (false≢true (sym e ∙ refusal_listed w.facts c (eqb-false n 0 p)))

pub permit_passed : (w : State) (c : Call) → (ruling w c).number ≡ 0 → refusal w.facts c ≡ 0
unfolding ruling
permit_passed w c e = go (eqb (refusal w.facts c) 0) refl e
  where
    n : ℕ
    n = refusal w.facts c

    go : (b : Bool) → eqb n 0 ≡ b → (cond b (verdict w c) (answer n 0)).number ≡ 0 → n ≡ 0
    go true p e = eqb-true n 0 p
    go false p e = e

-- a call that passed check 2 is in range, and one that passed check 3 is neither before the last time nor after the highest
passed : (ok : Bool) (n rest : ℕ) → eqb n 0 ≡ false → check ok n rest ≡ 0 → (ok ≡ true) × (rest ≡ 0)
passed true n rest z e = (refl, e)
passed false n rest z e = absurd (eqb-false n 0 z e)

pub is_in_range : (f : Facts) (t : ℕ) (e : Event) → refusal f (timed t e) ≡ 0 → in_range e ≡ true
unfolding refusal
is_in_range f t e p = (passed (in_range e) 2 (check (timely f t) 3 (check (stands f e) 4 0)) refl p).0

is_timely : (f : Facts) (t : ℕ) (e : Event) → refusal f (timed t e) ≡ 0 → timely f t ≡ true
unfolding refusal
is_timely f t e p =
    let h = (passed (in_range e) 2 (check (timely f t) 3 (check (stands f e) 4 0)) refl p).1 in
    (passed (timely f t) 3 (check (stands f e) 4 0) refl h).0

pub on_time : (f : Facts) (t : ℕ) (e : Event) → refusal f (timed t e) ≡ 0 → f.last ≤ t
on_time f t e p = leb-true f.last t (and_left (leb f.last t) (leb t highest_time) (is_timely f t e p))

pub in_time : (f : Facts) (t : ℕ) (e : Event) → refusal f (timed t e) ≡ 0 → t ≤ highest_time
in_time f t e p = leb-true t highest_time (and_right (leb f.last t) (leb t highest_time) (is_timely f t e p))

-- one that passed check 4 fits the standing, and one that passes the three is not refused
pub fits : (f : Facts) (t : ℕ) (e : Event) → refusal f (timed t e) ≡ 0 → stands f e ≡ true
unfolding refusal
fits f t e p =
    let h = (passed (in_range e) 2 (check (timely f t) 3 (check (stands f e) 4 0)) refl p).1 in
    (passed (stands f e) 4 0 refl (passed (timely f t) 3 (check (stands f e) 4 0) refl h).1).0

pub passes : (f : Facts) (t : ℕ) (e : Event) → in_range e ≡ true → f.last ≤ t → t ≤ highest_time → stands f e ≡ true → refusal f (timed t e) ≡ 0
unfolding refusal
passes f t e r l h s = rw (r, le-leb f.last t l, le-leb t highest_time h, s)

-- a refused call is added to no list, and changes nothing
refused_enters : (e : Event) (n : ℕ) (k : Kind) → among n refusals ≡ true → enters e n k ≡ false
unfolding enters
refused_enters (ask q) n k h = among_all (λ m. enters (ask q) m k ≡ false) n refusals (refl, (refl, (refl, (refl, (refl, tt))))) h
refused_enters (outcome s o) n k h = refl
refused_enters dropped n k h = refl
refused_enters tick n k h = among_all (λ m. enters tick m k ≡ false) n refusals (refl, (refl, (refl, (refl, (refl, tt))))) h

pub refused_adds : (k : Kind) (c : Call) (a : Answer) → refused a ≡ true → adds k c a ≡ []
unfolding adds
refused_adds k (timed t e) a h = rw (refused_enters e a.number k h)
refused_adds k (typed l) a h = refl

pub refused_nothing : (w : State) (c : Call) (a : Answer) → refused a ≡ true → learn w c a ≡ w
unfolding learn
refused_nothing w c a e = go (refused a) e
  where
    go : (b : Bool) → b ≡ true → record { facts = cond b w.facts (changed c a w.facts); lists = λ k. w.lists k ++ adds k c a } ≡ w
    go true p = λ i. record { facts = w.facts; lists = λ k. (ap (λ (l : List ℕ). w.lists k ++ l) (refused_adds k c a e) ∙ append-nil (w.lists k)) i }
    go false p = absurd (false≢true p)

-- ---- 20 is given just where an outcome backs off, and carries the wait

-- the answer to an outcome of service s whose action is n
pub failed_backs : (f : Facts) (s n : ℕ) → eqb (failed f s n).number 20 ≡ (eqb n 20 && eqb f.mode.nfm 1)
unfolding failed
failed_backs f s n = go (eqb n 20) (eqb f.mode.nfm 1) refl refl
  where
    go : (x y : Bool) → eqb n 20 ≡ x → eqb f.mode.nfm 1 ≡ y → eqb (failed f s n).number 20 ≡ (eqb n 20 && eqb f.mode.nfm 1)
    go true true p q = rw (p, q)
    go true false p q = rw (p, q)
    go false y p q = rw p p

pub failed_wait : (f : Facts) (s n : ℕ) → eqb (failed f s n).number 20 ≡ true → (failed f s n).second ≡ wait f s
unfolding failed
failed_wait f s n e =
    let b = sym (failed_backs f s n) ∙ e in
    rw (and_left (eqb n 20) _ b, and_right (eqb n 20) _ b)

-- a call that passes the checks is answered by the verdict on it
pub passed_verdict : (w : State) (c : Call) → refusal w.facts c ≡ 0 → ruling w c ≡ verdict w c
unfolding ruling
passed_verdict w c z = rw z

pub outcome_backs : (w : State) (t s : ℕ) (o : Outcome) → refusal w.facts (timed t (outcome s o)) ≡ 0
    → eqb (ruling w (timed t (outcome s o))).number 20 ≡ (to_back_off o && eqb w.facts.mode.nfm 1)
unfolding verdict
outcome_backs w t s granted z = rw (passed_verdict w (timed t (outcome s granted)) z)
outcome_backs w t s silent z = rw (passed_verdict w (timed t (outcome s silent)) z) (failed_backs w.facts s 20)
outcome_backs w t s (rejected cause second column) z =
    rw (passed_verdict w (timed t (outcome s (rejected cause second column))) z) (failed_backs w.facts s (action column cause second))

-- ---- The numbers of actions

-- none is below 20
number_low : (x : Action) (second : ℕ) → 20 ≤ number_of x second
number_low back_off second = omega arith
number_low both_back_off second = omega arith
number_low re_attach second = omega arith
number_low other_network second = go (eqb second 1)
  where
    go : (b : Bool) → 20 ≤ cond b 22 20
    go true = omega arith
    go false = omega arith
number_low as_3GPP second = omega arith
number_low not_same_PLMN second = omega arith
number_low not_same_area second = omega arith
number_low not_same_cell second = omega arith
number_low reactivate second = omega arith
number_low re_establish second = omega arith

pub action_low : (column cause second : ℕ) → 20 ≤ action column cause second
unfolding action
action_low column cause second = number_low (printed column cause).action second
