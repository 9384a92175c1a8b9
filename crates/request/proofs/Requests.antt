-- A request on a good buffer: what it leaves, by its answer. Assumes nothing.
use mathlib.Core.Path.{◌≡◌, sym, ap, ◌∙◌}
use mathlib.Core.Bool.{true, false, cond, ◌&&◌}
use mathlib.Core.List.{List, [], ◌∷◌, ◌++◌, append-nil}
use Prim.Native.Nat.{ℕ, ◌≤◌}
use lib.Dec.{eqb}
use lib.ListN.{length}
use borrow.Author.Tests.{leb-true, ne_eqb}
use Rattle.rules.specs.declared.Answer.{Answer}
use Rattle.rules.specs.Calls.{timed}
use Rattle.rules.specs.declared.Event.TheVariants.{Ask as ask}
use Rattle.rules.specs.Tables.{Kind, goes}
use Rattle.rules.specs.Rules.{in_range, ruling, refused, moved, counted, asked, acted, changed, enters, adds, newest, step}
use Rattle.rules.specs.State.{Facts, with_counters, with_services, with_due, with_standing}
use Rattle.rules.proofs.Checks.{permit_passed, is_in_range}
use Rattle.buffer.specs.Layout.{spread, lay, rows, facts_of, view}
use Rattle.buffer.specs.Good.{good}
use Rattle.buffer.proofs.Keep.{newest_all}
use Rattle.buffer.proofs.Laid.{laid_as}
use Rattle.clock.specs.Call.{Says}
use Rattle.clock.proofs.Saying.{lists_short, goes_on, says_good, says_refused}
use Rattle.clock.proofs.Leaking.{laid_moved}
use Rattle.request.specs.Request.{tallied, sent}
use Rattle.request.proofs.Acting.{laid_sent, laid_tallied}

module _ (b : List ℕ) (g : good b ≡ true) (t q : ℕ) (a : Answer) (e : a ≡ ruling (view b) (timed t (ask q))) where
  -- facts and lists after an accepted request whose answer is n
  facts_after : ℕ → Facts
  facts_after n =
      let f = moved t (facts_of b) in
      with_due (with_services (with_counters f (counted n f.counters)) (with_standing f.services (cond (eqb n 0) (asked q f.services.standing) f.services.standing)))
      (cond (eqb n 0 && eqb q 5) 0 f.due)

  lists_after : ℕ → Kind → List ℕ
  lists_after n k = newest ((view b).lists k ++ cond (eqb n 0 && goes q k) (t ∷ []) [])

  goes_to : refused a ≡ false → lay (step (view b) (timed t (ask q))) ≡ spread (facts_after a.number) (rows (lists_after a.number))
  unfolding changed acted adds enters facts_after lists_after
  goes_to h = goes_on b g (timed t (ask q)) a (sym e) h

  short : (k : Kind) → length ((view b).lists k) ≤ 255
  short = lists_short b g

  pub request_refused : refused a ≡ true → Says b (timed t (ask q)) a b
  request_refused h = says_refused b g (timed t (ask q)) a (sym e) h

  served : a.number ≡ 0 → q ≤ 5
  unfolding in_range
  served z = leb-true q 5 (is_in_range (facts_of b) t (ask q) (permit_passed (view b) (timed t (ask q)) (ap (λ (x : Answer). x.number) (sym e) ∙ z)))

  pub request_permits : {x y : List ℕ} → refused a ≡ false → a.number ≡ 0 → x ≡ spread (moved t (facts_of b)) (rows (view b).lists) → y ≡ sent x q t
      → Says b (timed t (ask q)) a y
  unfolding facts_after lists_after counted
  request_permits h n p d =
      let w = laid_as (laid_sent (view b).lists (laid_moved b g t p) short t q (served n)) d in
      says_good b g (timed t (ask q)) a (sym e) (w.is ∙ sym (goes_to h ∙ (λ i. spread (facts_after (n i)) (rows (lists_after (n i))))))

  kept : (k : Kind) → eqb a.number 0 ≡ false → lists_after a.number k ≡ (view b).lists k
  unfolding lists_after
  kept k z = rw (z, append-nil) (newest_all ((view b).lists k) (short k))

  blocked : eqb a.number 0 ≡ false
      → spread (facts_after a.number) (rows (lists_after a.number)) ≡ spread (with_counters (moved t (facts_of b)) (counted a.number (moved t (facts_of b)).counters)) (rows (view b).lists)
  unfolding facts_after
  blocked z =
      let f = moved t (facts_of b) in
      λ i.
      spread
      (with_due (with_services (with_counters f (counted a.number f.counters)) (with_standing f.services (cond (z i) (asked q f.services.standing) f.services.standing)))
      (cond (z i && eqb q 5) 0 f.due))
      (rows (λ k. kept k z i))

  pub request_blocked : {x y : List ℕ} → refused a ≡ false → (a.number ≡ 0 → ⊥) → x ≡ spread (moved t (facts_of b)) (rows (view b).lists) → y ≡ tallied x a.number
      → Says b (timed t (ask q)) a y
  request_blocked h n p d =
      let w = laid_as (laid_tallied (laid_moved b g t p) a.number) d in
      says_good b g (timed t (ask q)) a (sym e) (w.is ∙ sym (goes_to h ∙ blocked (ne_eqb a.number 0 n)))
