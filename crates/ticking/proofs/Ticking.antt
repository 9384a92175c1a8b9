-- Whether a clock call orders a reset, from what each test found, and what it leaves. Assumes
-- nothing.
use mathlib.Core.Path.{◌≡◌, refl, sym, ◌∙◌}
use mathlib.Core.Bool.{Bool, true, false, cond, not, ◌&&◌}
use mathlib.Core.List.{List}
use mathlib.Core.Logic.{◌≢◌, ◌⊎◌, inl, inr}
use Prim.Native.Nat.{ℕ, ◌≤◌, ◌<◌}
use native.Mathlib.Omega.{arith}
use lib.Dec.{ltb, leb, eqb}
use Rattle.std.specs.Prelude.{Option, Some, None}
use Rattle.std.specs.Option.{is_none}
use lib.ListN.{get_or}
use borrow.Author.Tests.{leb-true, lt-ltb, lt-leb, le-leb, not-true, not-false}
use Rattle.rules.specs.Calls.{timed, answer}
use Rattle.rules.specs.declared.Event.TheVariants.{Tick as tick}
use Rattle.rules.specs.Rules.{limits, blocks, in_range, timely, stands, refusal, is_due, on_reset, orders, verdict, ruling, moved, counted, asked, acted, changed, enters, adds}
use Rattle.rules.proofs.Checks.{and_left}
use Rattle.refusals.specs.Refusals.{above_zero}
use Rattle.permits.specs.Permits.{full_for}
use Rattle.buffer.specs.Places.{DUE}
use Rattle.buffer.specs.Layout.{spread, rows, row, facts_of, view}
use Rattle.buffer.specs.Good.{Shape, good}
use Rattle.buffer.proofs.Laid.{laid_shape}
use Rattle.clock.specs.Call.{Says}
use Rattle.clock.proofs.Saying.{lists_short, goes_on, moves, says_good, says_refused}
use Rattle.clock.proofs.Leaking.{laid_moved}
use Rattle.deciding.specs.declared.Row.{Row}
use Rattle.deciding.specs.Limits.{limit_at, RowOf}
use Rattle.deciding.proofs.Deciding.{row_on, row_off}
use Rattle.request.proofs.Acting.{laid_sent, laid_tallied}
use Rattle.ticking.specs.Ticking.{ordered}

-- ---- Whether it orders

and_true : (x : Bool) → (x && true) ≡ x
and_true true = refl
and_true false = refl

module _ (b : List ℕ) (t : ℕ) where
  none_due : get_or b DUE 0 ≡ 0 → false ≡ orders (view b) t
  unfolding orders is_due facts_of
  none_due z = rw z

  too_early : t < get_or b DUE 0 → false ≡ orders (view b) t
  unfolding orders is_due facts_of
  too_early h = go (ltb 0 (get_or b DUE 0)) (lt-leb (get_or b DUE 0) t h) _ _
    where
      go : (x : Bool) {y : Bool} → y ≡ false → (z u : Bool) → false ≡ (((x && y) && z) && u)
      go true e z u = rw e
      go false e z u = refl

  -- it is not due
  pub not_due : {A : Type 0} → (get_or b DUE 0 ≡ 0) ⊎ (A × (t < get_or b DUE 0)) → false ≡ orders (view b) t
  not_due (inl z) = none_due z
  not_due (inr h) = too_early h.1

  -- it is due
  module _ (set : get_or b DUE 0 ≢ 0) (late : get_or b DUE 0 ≤ t) (r : Row) (h : RowOf (limit_at (facts_of b) 5 0) r) where
    rpm : r.applies ≡ eqb (facts_of b).opening.rpm 1
    unfolding limits
    rpm = h.applies ∙ and_true _

    by_limits : orders (view b) t ≡ (r.applies && not (blocks (view b) t (on_reset (facts_of b))))
    unfolding orders is_due facts_of
    by_limits = rw (lt-ltb 0 (get_or b DUE 0) (omega arith), le-leb (get_or b DUE 0) t (omega arith), rpm)

    pub rpm_off : not r.applies ≡ true → false ≡ orders (view b) t
    rpm_off e = sym (by_limits ∙ rw (not-true r.applies e))

    module _ (on : not r.applies ≡ false) (g : good b ≡ true) (past : (facts_of b).last ≤ t) (o : Option ℕ)
        (e : o ≡ above_zero (cond (r.applies && ltb 0 r.most) (full_for t r.most (row b r.list)) 0)) where
      same : limit_at (facts_of b) 5 0 ≡ on_reset (facts_of b)
      unfolding limits on_reset
      same = rw (sym rpm ∙ not-false r.applies on)

      pub by_N1 : is_none o ≡ orders (view b) t
      by_N1 = sym (by_limits ∙ rw (not-false r.applies on, ← same) (go o refl))
        where
          go : (x : Option ℕ) → o ≡ x → not (blocks (view b) t (limit_at (facts_of b) 5 0)) ≡ is_none x
          go None z = rw (row_off b t 5 0 r h g past o e z)
          go (Some m) z = rw (row_on b t 5 0 r h g past o e m z).0

-- ---- What it leaves

module _ (b : List ℕ) (g : good b ≡ true) (t : ℕ) where
  -- the shape is kept as the clock moves
  pub moved_shape : {x : List ℕ} → x ≡ spread (moved t (facts_of b)) (rows (view b).lists) → Shape x
  moved_shape e = laid_shape (laid_moved b g t e)

  pub late : timely (facts_of b) t ≡ false → ruling (view b) (timed t tick) ≡ answer 3 0
  unfolding ruling refusal in_range stands
  late h = rw h

  pub ticks_late : timely (facts_of b) t ≡ false → Says b (timed t tick) (answer 3 0) b
  ticks_late h = says_refused b g (timed t tick) (answer 3 0) (late h) refl

  module _ (h : timely (facts_of b) t ≡ true) where
    pub in_time : (facts_of b).last ≤ t
    in_time = leb-true (facts_of b).last t (and_left (leb (facts_of b).last t) _ h)

    pub ruled : (x : Bool) → orders (view b) t ≡ x → ruling (view b) (timed t tick) ≡ cond x (answer 12 0) (answer 0 0)
    unfolding ruling refusal in_range stands verdict
    ruled x e = rw (h, e)

    pub ticks : orders (view b) t ≡ false → {x : List ℕ} → x ≡ spread (moved t (facts_of b)) (rows (view b).lists) → Says b (timed t tick) (answer 0 0) x
    unfolding changed acted moved counted adds enters
    ticks n e = says_good b g (timed t tick) (answer 0 0) (ruled false n) (e ∙ sym (moves b g (timed t tick) (answer 0 0) (ruled false n) refl (λ k. refl)))

    pub resets : orders (view b) t ≡ true → {x : List ℕ} → x ≡ ordered b t → Says b (timed t tick) (answer 12 0) x
    unfolding changed acted moved counted asked adds enters
    resets y e =
        let w = laid_tallied (laid_sent (view b).lists (laid_moved b g t refl) (lists_short b g) t 5 (omega arith)) 12 in
        says_good b g (timed t tick) (answer 12 0) (ruled true y)
        (e ∙ w.is ∙ sym (goes_on b g (timed t tick) (answer 12 0) (ruled true y) refl))
