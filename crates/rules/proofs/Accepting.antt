-- A call is accepted just when no check of the rules refuses it, and any other is refused by the
-- first check that it does not pass. Assumes nothing.
use Prim.Native.Nat.{ℕ, zero, suc, ◌≤◌}
use mathlib.Core.Path.{◌≡◌, refl, sym, ◌∙◌}
use mathlib.Core.Bool.{Bool, true, false, cond, ◌&&◌, ◌||◌, false≢true}
use mathlib.Core.List.{List}
use mathlib.Core.Logic.{◌⊎◌, inl, inr}
use lib.ListN.{get_or}
use lib.Dec.{leb, eqb}
use borrow.Author.Tests.{leb-true, eqb-true, le-leb, eq-eqb}
use native.Mathlib.Omega.{arith}
use Rattle.rules.specs.Calls.{Outcome, Event, ask, outcome, granted, silent, rejected, dropped, tick, Line, nfm, nfm_start, intervals, query, bad, timed, typed, Entry, answer}
use Rattle.rules.specs.Causes.{belongs}
use Rattle.rules.specs.Tables.{highest_time, scheduled}
use Rattle.rules.specs.State.{State}
use Rattle.rules.specs.Record.{last_time, standing}
use Rattle.rules.specs.Rules.{in_range, timely, stands, refusal, verdict, ruling}
use Rattle.rules.specs.Told.{tells, ruled}
use Rattle.rules.specs.Direct.{Has, MM, GMM, SM, RP, CP, InRange, InTime, Fits, Accepted, AsAbove, written}
use Rattle.rules.proofs.Checks.{and_left, and_right, passed_verdict}
use Rattle.rules.proofs.Groups.{of_four}

pub not_true : (b : Bool) → (b ≡ true → ⊥) → b ≡ false
not_true true h = absurd (h refl)
not_true false h = refl

-- whether a test holds of what it tests
decided : {A : Type 0} (b : Bool) → (b ≡ true → A) → (A → b ≡ true) → A ⊎ (A → ⊥)
decided true there back = inl (there refl)
decided false there back = inr (λ h. false≢true (back h))

-- ---- Check 2

has_low : {s column : ℕ} → Has s column → s ≤ 3
has_low MM = omega arith
has_low GMM = omega arith
has_low SM = omega arith
has_low RP = omega arith
has_low CP = omega arith

has_belongs : {s column : ℕ} → Has s column → belongs column s ≡ true
has_belongs MM = refl
has_belongs GMM = refl
has_belongs SM = refl
has_belongs RP = refl
has_belongs CP = refl

own : (s : ℕ) → s ≤ 3 → Has s s
own zero h = MM
own (suc zero) h = GMM
own (suc (suc zero)) h = SM
own (suc (suc (suc zero))) h = RP
own (suc (suc (suc (suc s)))) h = absurd (omega arith)

belongs_has : (s column : ℕ) → s ≤ 3 → belongs column s ≡ true → Has s column
belongs_has s column low h = go (eqb column s) refl h
  where
    go : (b : Bool) → eqb column s ≡ b → (b || (eqb column 4 && eqb s 3)) ≡ true → Has s column
    go true e h = rw (eqb-true column s e) (own s low)
    go false e h = rw (eqb-true column 4 (and_left (eqb column 4) _ h), eqb-true s 3 (and_right (eqb column 4) _ h)) CP

pub ranges : (e : Event) → InRange e → in_range e ≡ true
unfolding in_range
ranges (ask q) h = le-leb q 5 h
ranges (outcome s granted) h = le-leb s 3 h
ranges (outcome s silent) h = le-leb s 3 h
ranges (outcome s (rejected cause second column)) h = rw (le-leb s 3 (has_low h.0), le-leb cause 255 h.1.0, le-leb second 1 h.1.1, has_belongs h.0)
ranges dropped h = refl
ranges tick h = refl

pub ranged : (e : Event) → in_range e ≡ true → InRange e
unfolding in_range
ranged (ask q) h = leb-true q 5 h
ranged (outcome s granted) h = leb-true s 3 h
ranged (outcome s silent) h = leb-true s 3 h
ranged (outcome s (rejected cause second column)) h =
    let low = leb-true s 3 (and_left (leb s 3) _ h) in
    let rest = and_right (leb s 3) _ h in
    let last = and_right (leb cause 255) _ rest in
    (belongs_has s column low (and_right (leb second 1) _ last), (leb-true cause 255 (and_left (leb cause 255) _ rest), leb-true second 1 (and_left (leb second 1) _ last)))
ranged dropped h = tt
ranged tick h = tt

pub service_low : (s : ℕ) (o : Outcome) → InRange (outcome s o) → s ≤ 3
service_low s granted h = h
service_low s silent h = h
service_low s (rejected cause second column) h = has_low h.0

module _ (g : State) (past : List Entry) where
  -- ---- Check 3

  pub timing : (t : ℕ) → InTime g past t → timely (tells g past).facts t ≡ true
  unfolding tells
  timing t h = rw (le-leb (last_time g past) t h.not_below, le-leb t highest_time h.not_above)

  pub timed_in : (t : ℕ) → timely (tells g past).facts t ≡ true → InTime g past t
  unfolding tells
  timed_in t h =
      record {
        not_below = leb-true (last_time g past) t (and_left (leb (last_time g past) t) _ h);
        not_above = leb-true t highest_time (and_right (leb (last_time g past) t) _ h);
      }

  -- ---- Check 4

  stands_told : (s : ℕ) → s ≤ 3 → get_or (tells g past).facts.services.standing s 0 ≡ standing g s past
  unfolding tells
  stands_told s h = of_four (λ u. standing g u past) s h

  pub fitted : (e : Event) → InRange e → stands (tells g past).facts e ≡ true → Fits g past e
  unfolding stands
  fitted (ask q) r h = (idle, up)
    where
      l : List ℕ
      l = (tells g past).facts.services.standing

      idle : q ≤ 3 → standing g q past ≡ 0
      idle low = sym (stands_told q low) ∙ eqb-true (get_or l q 0) 0 (rw (le-leb q 3 low) at h)

      up : q ≡ 4 → standing g 2 past ≡ 2
      up e = sym (stands_told 2 (omega arith)) ∙ eqb-true (get_or l 2 0) 2 (rw e at h)
  fitted (outcome s o) r h = sym (stands_told s (service_low s o r)) ∙ eqb-true _ 1 h
  fitted dropped r h = sym (stands_told 2 (omega arith)) ∙ eqb-true _ 2 h
  fitted tick r h = tt

  pub fitting : (e : Event) → InRange e → Fits g past e → stands (tells g past).facts e ≡ true
  unfolding stands
  fitting (ask q) r h = go (leb q 3) (eqb q 4) refl refl
    where
      l : List ℕ
      l = (tells g past).facts.services.standing

      go : (x y : Bool) → leb q 3 ≡ x → eqb q 4 ≡ y → cond x (eqb (get_or l q 0) 0) (cond y (eqb (get_or l 2 0) 2) true) ≡ true
      go true y p z = let low = leb-true q 3 p in eq-eqb (get_or l q 0) 0 (stands_told q low ∙ h.0 low)
      go false true p z = eq-eqb (get_or l 2 0) 2 (stands_told 2 (omega arith) ∙ h.1 (eqb-true q 4 z))
      go false false p z = refl
  fitting (outcome s o) r h = eq-eqb _ 1 (stands_told s (service_low s o r) ∙ h)
  fitting dropped r h = eq-eqb _ 2 (stands_told 2 (omega arith) ∙ h)
  fitting tick r h = refl

  -- ---- The answer, by the first check that is not passed

  module _ (t : ℕ) (e : Event) where
    pub refused_2 : in_range e ≡ false → ruled g past (timed t e) ≡ answer 2 0
    unfolding ruling refusal
    refused_2 p = rw p

    pub refused_3 : in_range e ≡ true → timely (tells g past).facts t ≡ false → ruled g past (timed t e) ≡ answer 3 0
    unfolding ruling refusal
    refused_3 p q = rw (p, q)

    pub refused_4 : in_range e ≡ true → timely (tells g past).facts t ≡ true → stands (tells g past).facts e ≡ false → ruled g past (timed t e) ≡ answer 4 0
    unfolding ruling refusal
    refused_4 p q s = rw (p, q, s)

    pub accepted_passes : Accepted g past t e → refusal (tells g past).facts (timed t e) ≡ 0
    unfolding refusal
    accepted_passes a = rw (ranges e a.is_in_range, timing t a.in_time, fitting e a.is_in_range a.fits)

    pub accepted_verdict : Accepted g past t e → ruled g past (timed t e) ≡ verdict (tells g past) (timed t e)
    accepted_verdict a = passed_verdict (tells g past) (timed t e) (accepted_passes a)

  -- ---- Check 5

  pub as_above : (l : Line) → AsAbove l ⊎ (AsAbove l → ⊥)
  as_above (nfm a) = decided (leb a 1) (leb-true a 1) (le-leb a 1)
  as_above (nfm_start a s) =
      decided (leb a 1 && leb s 1) (λ e. (leb-true a 1 (and_left (leb a 1) _ e), leb-true s 1 (and_right (leb a 1) _ e)))
      (λ h. rw (le-leb a 1 h.0, le-leb s 1 h.1))
  as_above (intervals l) = decided (scheduled l) (λ e. e) (λ e. e)
  as_above query = inl tt
  as_above bad = inr (λ h. h)

  pub line_done : (l : Line) → AsAbove l → ruled g past (typed l) ≡ answer 0 (written l)
  unfolding ruling refusal verdict
  line_done (nfm a) h = rw (le-leb a 1 h)
  line_done (nfm_start a s) h = rw (le-leb a 1 h.0, le-leb s 1 h.1)
  line_done (intervals l) h = rw h
  line_done query h = refl
  line_done bad h = absurd h

  pub line_refused : (l : Line) → (AsAbove l → ⊥) → ruled g past (typed l) ≡ answer 5 0
  unfolding ruling refusal verdict
  line_refused (nfm a) h = rw (not_true (leb a 1) (λ e. h (leb-true a 1 e)))
  line_refused (nfm_start a s) h =
      rw (not_true (leb a 1 && leb s 1) (λ e. h (leb-true a 1 (and_left (leb a 1) _ e), leb-true s 1 (and_right (leb a 1) _ e))))
  line_refused (intervals l) h = rw (not_true (scheduled l) h)
  line_refused query h = absurd (h tt)
  line_refused bad h = refl
