-- What a call says: one result only, a good buffer stays good, and the ways to get there on a good buffer. Assumes nothing.
use mathlib.Core.Path.{◌≡◌, refl, sym, ◌∙◌}
use mathlib.Core.Bool.{Bool, true, false, cond, not}
use mathlib.Core.List.{List, [], ◌++◌, append-nil}
use Prim.Native.Nat.{ℕ, ◌≤◌}
use lib.ListN.{length}
use borrow.Author.Tests.{ne_eqb, not-true, not-false}
use Rattle.rules.specs.declared.Answer.{Answer}
use Rattle.rules.specs.Calls.{Call, timed, answer}
use Rattle.rules.specs.declared.Event.{Event}
use Rattle.rules.specs.Tables.{Kind}
use Rattle.rules.specs.Rules.{refusal, verdict, ruling, refused, changed, adds, learn, newest, short, step}
use Rattle.rules.proofs.Checks.{refusal_listed, refused_adds}
use Rattle.buffer.specs.Places.{SIZE}
use Rattle.buffer.specs.Layout.{spread, lay, rows, facts_of, view}
use Rattle.buffer.specs.Good.{good}
use Rattle.buffer.proofs.Goodness.{good_shape, lay_view_good, good_lay, valid_view}
use Rattle.buffer.proofs.Sane.{valid_facts}
use Rattle.buffer.proofs.Keep.{newest_all, keep}
use Rattle.clock.specs.Call.{call_answer, call_after, Says}

-- two results that are said are one
pub one_result : {b : List ℕ} {c : Call} {r r' : Answer} {x x' : List ℕ} → Says b c r x → Says b c r' x' → (r ≡ r') × (x ≡ x')
one_result p q = (p.answered ∙ sym q.answered, p.left ∙ sym q.left)

-- a bad buffer is left
pub says_bad : (b : List ℕ) (c : Call) → good b ≡ false → Says b c (answer 1 0) b
unfolding call_answer call_after
says_bad b c h = record { answered = rw h; left = rw h }

-- what a call on a good buffer asks for, from the answer r of the check
pub known_good : (b : List ℕ) {r : Bool} → r ≡ good b → not r ≡ false → (length b ≡ SIZE) × (good b ≡ true)
known_good b {r} e h = let g = sym e ∙ not-false r h in ((good_shape b g).long, g)

pub known_bad : (b : List ℕ) (c : Call) {r : Bool} → r ≡ good b → not r ≡ true → Says b c (answer 1 0) b
known_bad b c {r} e h = says_bad b c (sym e ∙ not-true r h)

pub lists_short : (b : List ℕ) → good b ≡ true → (k : Kind) → length ((view b).lists k) ≤ 255
lists_short b g k = (valid_facts (view b) (valid_view b g)).short k

module _ (b : List ℕ) (g : good b ≡ true) (c : Call) (a : Answer) (e : ruling (view b) c ≡ a) where
  step_lay : lay (step (view b) c) ≡ spread (cond (refused a) (facts_of b) (changed c a (facts_of b))) (rows (λ k. newest ((view b).lists k ++ adds k c a)))
  unfolding step short learn
  step_lay = rw e

  -- a list to which nothing is added
  pub kept_row : (k : Kind) → adds k c a ≡ [] → newest ((view b).lists k ++ adds k c a) ≡ (view b).lists k
  kept_row k h = rw (h, append-nil) (newest_all ((view b).lists k) (lists_short b g k))

  -- a refusal leaves every place
  stays : refused a ≡ true → lay (step (view b) c) ≡ b
  stays h = step_lay ∙ (λ i. spread (cond (h i) (facts_of b) (changed c a (facts_of b))) (rows (λ k. kept_row k (refused_adds k c a h) i))) ∙ lay_view_good b g

  -- an accepted call
  pub goes_on : refused a ≡ false → lay (step (view b) c) ≡ spread (changed c a (facts_of b)) (rows (λ k. newest ((view b).lists k ++ adds k c a)))
  goes_on h = step_lay ∙ (λ i. spread (cond (h i) (facts_of b) (changed c a (facts_of b))) (rows (λ k. newest ((view b).lists k ++ adds k c a))))

  -- an accepted call that adds to no list
  pub moves : refused a ≡ false → ((k : Kind) → adds k c a ≡ []) → lay (step (view b) c) ≡ spread (changed c a (facts_of b)) (rows (view b).lists)
  moves h n = goes_on h ∙ (λ i. spread (changed c a (facts_of b)) (rows (λ k. kept_row k (n k) i)))

  pub after_is : call_after b c ≡ lay (step (view b) c)
  unfolding call_after
  after_is = rw (g, e) (go (refused a) refl)
    where
      go : (x : Bool) → refused a ≡ x → cond (not x) (lay (step (view b) c)) b ≡ lay (step (view b) c)
      go true h = sym (stays h)
      go false h = refl

  pub answer_is : call_answer b c ≡ a
  unfolding call_answer
  answer_is = rw g e

  -- what a call on a good buffer has to show
  pub says_good : {x : List ℕ} → x ≡ lay (step (view b) c) → Says b c a x
  says_good d = record { answered = sym answer_is; left = d ∙ sym after_is }

  pub says_refused : refused a ≡ true → Says b c a b
  says_refused h = says_good (sym (stays h))

-- a good buffer stays good
pub good_after : (b : List ℕ) (c : Call) → good b ≡ true → good (call_after b c) ≡ true
good_after b c h = rw (after_is b h c (ruling (view b) c) refl) (good_lay (step (view b) c) (keep (view b) (valid_view b h) c))

-- a timed call whose first failing check is n
module _ (b : List ℕ) (g : good b ≡ true) (t : ℕ) (e : Event) (n : ℕ) (d : n ≡ refusal (facts_of b) (timed t e)) where
  pub event_refused : (n ≡ 0 → ⊥) → ruling (view b) (timed t e) ≡ answer n 0
  unfolding ruling
  event_refused h = rw (← d, ne_eqb n 0 h)

  pub says_number : (n ≡ 0 → ⊥) → Says b (timed t e) (answer n 0) b
  says_number h =
      let r : refused (answer n 0) ≡ true = rw d (refusal_listed (facts_of b) (timed t e) (rw d at h)) in
      says_refused b g (timed t e) (answer n 0) (event_refused h) r

  pub rules_on : n ≡ 0 → ruling (view b) (timed t e) ≡ verdict (view b) (timed t e)
  unfolding ruling
  rules_on z = rw (← d, z)
