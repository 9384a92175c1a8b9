-- Whom a back-off reaches: the service itself, and on a row for both registrations services 0 and 1;
-- such rows stand in their columns alone. Assumes nothing.
use Prim.Native.Nat.{ℕ, suc, ◌+◌, min, ◌≤◌}
use mathlib.Core.Path.{◌≡◌, refl, sym, ◌∙◌}
use mathlib.Core.Bool.{Bool, true, false, cond, not, ◌&&◌, false≢true}
use mathlib.Core.List.{List, [], ◌∷◌}
use lib.Dec.{leb, eqb}
use lib.ListN.{get_or}
use borrow.Author.Tests.{leb-true, le-leb, eqb-true, eq-eqb}
use native.Mathlib.Omega.{arith}
use Rattle.rules.specs.declared.Answer.{Answer}
use Rattle.rules.specs.Calls.{Outcome, outcome, granted, silent, rejected, timed, Entry, entry}
use Rattle.rules.specs.Causes.{Row, columns, row_of, printed, of_both, both, reaches}
use Rattle.rules.specs.Tables.{wait_for}
use Rattle.rules.specs.State.{State}
use Rattle.rules.specs.Record.{nfm_now, intervals_now, to_back_off, for_both, in_a_row, failures, back_off_end}
use Rattle.rules.specs.Direct.{Has, MM, GMM, SM, RP, CP, InRange, BacksOff, backs_off, next_wait, Reached, itself, registration}
use Rattle.rules.proofs.Checks.{and_left, and_right}
use Rattle.rules.proofs.Accepting.{not_true}
use Rattle.rules.proofs.Groups.{end_more}

-- ---- The rows for both registrations

-- none of a column's rows is for both
abbrev single : List Row → Bool
single [] = true
single (r ∷ rs) = not (of_both r.action) && single rs

not_false : (b : Bool) → not b ≡ true → b ≡ false
not_false true e = absurd (false≢true e)
not_false false e = refl

single_rows : (rows : List Row) → single rows ≡ true → (cause : ℕ) → of_both (row_of rows cause).action ≡ false
single_rows [] t cause = refl
single_rows (r ∷ rs) t cause = go (eqb cause r.cause) (single_rows rs (and_right (not (of_both r.action)) _ t) cause)
  where
    go : (b : Bool) → of_both (row_of rs cause).action ≡ false → of_both (cond b r (row_of rs cause)).action ≡ false
    go true rest = not_false (of_both r.action) (and_left (not (of_both r.action)) _ t)
    go false rest = rest

-- a service that has a row for both is a registration
both_low : {s column : ℕ} → Has s column → (cause : ℕ) → both column cause ≡ true → s ≤ 1
unfolding both printed
both_low MM cause e = omega arith
both_low GMM cause e = omega arith
both_low SM cause e = absurd (false≢true (sym (single_rows (get_or columns 2 []) refl cause) ∙ e))
both_low RP cause e = absurd (false≢true (sym (single_rows (get_or columns 3 []) refl cause) ∙ e))
both_low CP cause e = absurd (false≢true (sym (single_rows (get_or columns 4 []) refl cause) ∙ e))

-- ---- Whom an outcome reaches

reached : (s : ℕ) (o : Outcome) (u : ℕ) → InRange (outcome s o) → Reached s o u → reaches (for_both o) s u ≡ true
reached s granted u r itself = eq-eqb s s refl
reached s silent u r itself = eq-eqb s s refl
reached s (rejected cause second column) u r itself = go (both column cause) refl
  where
    go : (b : Bool) → both column cause ≡ b → cond b (leb s 1) (eqb s s) ≡ true
    go true e = le-leb s 1 (both_low r.0 cause e)
    go false e = eq-eqb s s refl
reached s (rejected cause second column) u r (registration b low) = rw b (le-leb u 1 low)

own : (s u : ℕ) (o : Outcome) → eqb s u ≡ true → Reached s o u
own s u o e = rw (← eqb-true s u e) itself

reaching : (s : ℕ) (o : Outcome) (u : ℕ) → reaches (for_both o) s u ≡ true → Reached s o u
reaching s granted u e = own s u granted e
reaching s silent u e = own s u silent e
reaching s (rejected cause second column) u e = go (both column cause) refl e
  where
    go : (b : Bool) → both column cause ≡ b → cond b (leb u 1) (eqb s u) ≡ true → Reached s (rejected cause second column) u
    go true p e = registration p (leb-true u 1 e)
    go false p e = own s u (rejected cause second column) e

-- ---- So each service that is reached is held for its own wait, and no other is held longer

module _ (g : State) (past : List Entry) where
  last : (t u : ℕ) (b : Bool) → cond b (t + wait_for g.facts.opening.imsi (intervals_now g past) (min (cond b (suc (in_a_row g u past)) (in_a_row g u past)) 255)) (back_off_end g u past)
      ≡ cond b (t + next_wait g past u) (back_off_end g u past)
  unfolding failures
  last t u b = sym (end_more b (in_a_row g u past) (wait_for g.facts.opening.imsi (intervals_now g past)) t (back_off_end g u past))

  ends_at : (t s : ℕ) (o : Outcome) (a : Answer) → to_back_off o ≡ true → nfm_now g past ≡ 1 → (u : ℕ)
      → back_off_end g u (entry (timed t (outcome s o)) a ∷ past) ≡ cond (reaches (for_both o) s u) (t + next_wait g past u) (back_off_end g u past)
  unfolding back_off_end failures in_a_row
  ends_at t s granted a e n u = absurd (false≢true e)
  ends_at t s silent a e n u = rw (eq-eqb (nfm_now g past) 1 n) (last t u (eqb s u))
  ends_at t s (rejected cause second column) a e n u = rw (e, eq-eqb (nfm_now g past) 1 n) (last t u (reaches (both column cause) s u))

  pub waits_reached : (t s : ℕ) (o : Outcome) (a : Answer) → BacksOff g past (timed t (outcome s o)) → (u : ℕ) → Reached s o u
      → back_off_end g u (entry (timed t (outcome s o)) a ∷ past) ≡ t + next_wait g past u
  waits_reached t s o a (backs_off x e n) u r = ends_at t s o a e n u ∙ rw (reached s o u x.is_in_range r)

  pub stays_unreached : (t s : ℕ) (o : Outcome) (a : Answer) → BacksOff g past (timed t (outcome s o)) → (u : ℕ) → (Reached s o u → ⊥)
      → back_off_end g u (entry (timed t (outcome s o)) a ∷ past) ≡ back_off_end g u past
  stays_unreached t s o a (backs_off x e n) u r = ends_at t s o a e n u ∙ rw (not_true (reaches (for_both o) s u) (λ h. r (reaching s o u h)))
