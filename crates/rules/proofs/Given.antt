-- The rules give each number exactly when document 01's table of numbers says, over any record
-- whose permits rise: what they answer is given by a line of it, and what a line gives they answer.
-- So no call is given two answers. Assumes nothing.
use Prim.Native.Nat.{ℕ, suc, ◌+◌, ◌-◌, ◌≤◌, ◌<◌}
use mathlib.Core.Path.{◌≡◌, refl, sym, ap, ◌∙◌}
use mathlib.Core.Bool.{Bool, true, false, cond, not, ◌&&◌, false≢true}
use mathlib.Core.List.{List, [], ◌∷◌, ◌++◌}
use mathlib.Core.Logic.{⊎_elim, ◌≢◌}
use lib.ListN.{get_or}
use lib.Dec.{ltb, leb, eqb}
use borrow.Author.Tests.{leb-true, leb-false, ltb-true, ltb-false, eqb-true, eqb-false, le-leb, lt-ltb, le-ltb, eq-eqb, ne_eqb}
use native.Mathlib.Omega.{arith}
use Rattle.rules.specs.declared.Answer.{Answer}
use Rattle.rules.specs.Calls.{Outcome, Event, ask, outcome, granted, silent, rejected, dropped, tick, Call, timed, typed, Entry, answer}
use Rattle.rules.specs.Causes.{action}
use Rattle.rules.specs.Tables.{within, in_hour, from_newest, free_in, Kind, rank}
use Rattle.rules.specs.State.{State, Facts}
use Rattle.rules.specs.Record.{last_time, nfm_now, permits, to_back_off, failures, back_off_end, due_now}
use Rattle.rules.specs.Rules.{Limit, blocks, blocked_by, first_block, in_range, timely, stands, runs, wait, failed, is_due, on_reset, orders, verdict}
use Rattle.rules.specs.Told.{tells, ruled}
use Rattle.rules.specs.Direct.{Accepted, Limited, Over, Until, WithinLimits, Free, next_wait, Due, Given, permitted, on_grant, on_drop, on_tick, on_line, out_of_range, out_of_time, wrong_standing, not_as_above, held, blocked, ordered, backed_off, in_its_place, other_action}
use Rattle.rules.proofs.Checks.{and_left, and_right}
use Rattle.rules.proofs.Groups.{of_four}
use Rattle.rules.proofs.Newest.{Rising, rising_more, within_late, blocks_full, full_blocks}
use Rattle.rules.proofs.Leaving.{full_leaves}
use Rattle.rules.proofs.Rows.{Each, each_map, named, named_number, each_named, ordered as in_order, Before, first_none, first_named, Found, none, some, find}
use Rattle.rules.proofs.Limited.{limits_on, applying, listed, limited}
use Rattle.rules.proofs.Accepting.{not_true, ranges, ranged, service_low, timing, timed_in, fitting, fitted, refused_2, refused_3, refused_4, accepted_verdict, as_above, line_done, line_refused}

pub in_hour_more : (t : ℕ) (l : List ℕ) → in_hour t (l ++ (t ∷ [])) ≡ suc (in_hour t l)
unfolding within
in_hour_more t [] = rw (le-leb t t (omega arith), lt-ltb t (t + 3600) (omega arith))
in_hour_more t (p ∷ l) = rw (in_hour_more t l) (go (within t p))
  where
    go : (b : Bool) → cond b (suc (suc (in_hour t l))) (suc (in_hour t l)) ≡ suc (cond b (suc (in_hour t l)) (in_hour t l))
    go true = refl
    go false = refl

-- the permits of a record rise to its last time
abbrev pub Rises : State → List Entry → Type 0
Rises g past = (k : Kind) → Rising g.facts.opening.opened (permits g k past) (last_time g past)

module _ (g : State) (past : List Entry) where
  -- ---- A row blocks just when it applies and a permit would be one too many

  pub blocks_over : (u : ℕ) (r : Limit) → blocks (tells g past) u r ≡ true → Over g past u r.most r.kind
  unfolding tells
  blocks_over u r e =
      let f = blocks_full (tells g past) u r e in
      record { above = f.above; over = rw (in_hour_more u (permits g r.kind past)) (omega (arith, f.over)) }

  pub over_blocks : (u : ℕ) (r : Limit) → r.applies ≡ true → Over g past u r.most r.kind → blocks (tells g past) u r ≡ true
  unfolding tells
  over_blocks u r a v = full_blocks (tells g past) u r a v.above (omega (arith, rw (in_hour_more u (permits g r.kind past)) at v.over))

  -- and then its answer tells the seconds until it permits
  until : Rises g past → (t : ℕ) → last_time g past ≤ t → (r : Limit) → blocks (tells g past) t r ≡ true
      → Until g past t r.most r.kind (free_in t r.most (permits g r.kind past))
  unfolding tells
  until up t late r e =
      let l = permits g r.kind past in
      let f = blocks_full (tells g past) t r e in
      let h = full_leaves (tells g past) t r g.facts.opening.opened (rising_more _ l _ t (up r.kind) late) e in
      let p = from_newest r.most l in
      let in_the_hour : t < p + 3600 = within_late t p h.in_the_hour in
      record {
        before = λ u a b. record { above = f.above; over = rw (in_hour_more u l) (omega (arith, h.until u a (omega (arith, in_the_hour, b)))) };
        then = λ u b x. omega (arith, in_the_hour, rw (in_hour_more u l) at x.over, h.from u (omega (arith, in_the_hour, b)));
      }

  -- ---- The back-off

  end_held : (q : ℕ) → q ≤ 3 → get_or (tells g past).facts.services.ends q 0 ≡ back_off_end g q past
  unfolding tells
  end_held q h = of_four (λ s. back_off_end g s past) q h

  module _ (t q : ℕ) where
    runs_held : q ≤ 3 → t < back_off_end g q past → runs (tells g past).facts t q ≡ true
    unfolding runs
    runs_held low h = rw (end_held q low, le-leb q 3 low, lt-ltb t (back_off_end g q past) h)

    runs_free : Free g past t q → runs (tells g past).facts t q ≡ false
    unfolding runs
    runs_free free = go (leb q 3) refl
      where
        go : (x : Bool) → leb q 3 ≡ x → (x && ltb t (get_or (tells g past).facts.services.ends q 0)) ≡ false
        go true p = let low = leb-true q 3 p in rw (end_held q low) (le-ltb t (back_off_end g q past) (free low))
        go false p = refl

    -- ---- Requests that are accepted

    module _ (a : Accepted g past t (ask q)) where
      request_held : q ≤ 3 → t < back_off_end g q past → ruled g past (timed t (ask q)) ≡ answer 10 (back_off_end g q past - t)
      unfolding verdict
      request_held low h = accepted_verdict g past t (ask q) a ∙ rw (runs_held low h, end_held q low)

      by_limits : Free g past t q → ruled g past (timed t (ask q)) ≡ first_block (tells g past) t (limits_on g past q)
      unfolding verdict
      by_limits free = accepted_verdict g past t (ask q) a ∙ rw (runs_free free)

      -- a row that does not apply, or would not be broken, does not block
      not_over : (r : Limit) → (r.applies ≡ true → Over g past t r.most r.kind → ⊥) → blocks (tells g past) t r ≡ false
      not_over r h = not_true (blocks (tells g past) t r) (λ e. h (blocks_full (tells g past) t r e).applies (blocks_over t r e))

      -- a limit that would be broken blocks
      breaks : (n L : ℕ) (k : Kind) → Limited g past q n L k → Over g past t L k → blocks (tells g past) t (named n (limits_on g past q)) ≡ true
      breaks n L k l v = rw (listed g past q n L k l) (over_blocks t (applying n L k) refl v)

      -- so where it has what a row has that does not block, it is not
      unbroken : (P : Limit → Type 0) → Each P (limits_on g past q) → (n L : ℕ) (k : Kind) → Limited g past q n L k
          → (P (named n (limits_on g past q)) → blocks (tells g past) t (named n (limits_on g past q)) ≡ false) → Over g past t L k → ⊥
      unbroken P h n L k l quiet v =
          let there : (named n (limits_on g past q)).applies ≡ true = ap (λ (r : Limit). r.applies) (listed g past q n L k l) in
          false≢true (sym (quiet (each_named P n (limits_on g past q) h there)) ∙ breaks n L k l v)

      request_permitted : Free g past t q → WithinLimits g past t q → ruled g past (timed t (ask q)) ≡ answer 0 0
      request_permitted free keeps =
          by_limits free
          ∙ first_none (tells g past) t (limits_on g past q)
          (each_map (limits_on g past q) (λ r is. not_over r (λ e. keeps r.number r.most r.kind (is e))) (limited g past q))

      request_blocked : Free g past t q → (n L : ℕ) (k : Kind) → Limited g past q n L k → Over g past t L k
          → ((n' L' : ℕ) (k' : Kind) → rank n' < rank n → Limited g past q n' L' k' → Over g past t L' k' → ⊥)
          → ruled g past (timed t (ask q)) ≡ answer n (free_in t L (permits g k past))
      unfolding tells
      request_blocked free n L k l v lower =
          by_limits free
          ∙ first_named (tells g past) t n (limits_on g past q) (in_order (tells g past).facts q) (breaks n L k l v)
          (each_map (limits_on g past q) (λ r is x. not_over r (λ e. lower r.number r.most r.kind x (is e))) (limited g past q))
          ∙ ap (blocked_by (tells g past) t) (listed g past q n L k l)

      -- some line gives what is answered
      asked_given : Rises g past → Given g past (timed t (ask q)) (ruled g past (timed t (ask q)))
      unfolding tells
      asked_given up = go (leb q 3) (ltb t (back_off_end g q past)) refl refl
        where
          w : State
          w = tells g past

          rs : List Limit
          rs = limits_on g past q

          by : Free g past t q → Found w t rs → Given g past (timed t (ask q)) (ruled g past (timed t (ask q)))
          by free (none h) =
              let keeps : WithinLimits g past t q = λ n L k l. unbroken (λ r. blocks w t r ≡ false) h n L k l (λ e. e) in
              rw (request_permitted free keeps) (permitted a free keeps)
          by free (some n b h) =
              let is = (blocks_full w t (named n rs) b).applies in
              let l = each_named _ n rs (limited g past q) is is in
              let lower : (n' L' : ℕ) (k' : Kind) → rank n' < rank (named n rs).number → Limited g past q n' L' k' → Over g past t L' k' → ⊥ =
              λ n' L' k' c l'. unbroken (Before w t n) h n' L' k' l' (λ x. x (omega (arith, c, ap rank (named_number n rs), ap rank (named_number n' rs)))) in
              rw (by_limits free ∙ first_named w t n rs (in_order w.facts q) b h)
              (blocked a free l (blocks_over t (named n rs) b) lower (until up t a.in_time.not_below (named n rs) b))

          go : (x y : Bool) → leb q 3 ≡ x → ltb t (back_off_end g q past) ≡ y → Given g past (timed t (ask q)) (ruled g past (timed t (ask q)))
          go true true e f =
              let low = leb-true q 3 e in
              let h = ltb-true t (back_off_end g q past) f in
              rw (request_held low h) (held a low h)
          go true false e f = by (λ low. ltb-false t _ f) (find w t rs (in_order w.facts q))
          go false y e f = by (λ low. absurd (omega (arith, leb-false q 3 e))) (find w t rs (in_order w.facts q))

  -- ---- Outcomes that are accepted

  next_wait_told : (s : ℕ) → s ≤ 3 → wait (tells g past).facts s ≡ next_wait g past s
  unfolding wait tells
  next_wait_told s h = rw (of_four (λ u. failures g u past) s h)

  failure_verdict : (t s : ℕ) (o : Outcome) → to_back_off o ≡ true → verdict (tells g past) (timed t (outcome s o)) ≡ failed (tells g past).facts s 20
  unfolding verdict
  failure_verdict t s granted e = absurd (false≢true e)
  failure_verdict t s silent e = refl
  failure_verdict t s (rejected cause second column) e = rw (eqb-true (action column cause second) 20 e)

  module _ (t s : ℕ) (o : Outcome) (a : Accepted g past t (outcome s o)) where
    failure_20 : to_back_off o ≡ true → nfm_now g past ≡ 1 → ruled g past (timed t (outcome s o)) ≡ answer 20 (next_wait g past s)
    unfolding failed tells
    failure_20 e n =
        accepted_verdict g past t (outcome s o) a ∙ failure_verdict t s o e
        ∙ rw (eq-eqb (nfm_now g past) 1 n) (ap (answer 20) (next_wait_told s (service_low s o a.is_in_range)))

    failure_23 : to_back_off o ≡ true → nfm_now g past ≢ 1 → ruled g past (timed t (outcome s o)) ≡ answer 23 0
    unfolding failed tells
    failure_23 e n = accepted_verdict g past t (outcome s o) a ∙ failure_verdict t s o e ∙ rw (ne_eqb (nfm_now g past) 1 n)

    failed_given : to_back_off o ≡ true → Given g past (timed t (outcome s o)) (ruled g past (timed t (outcome s o)))
    failed_given e = go (eqb (nfm_now g past) 1) refl
      where
        go : (x : Bool) → eqb (nfm_now g past) 1 ≡ x → Given g past (timed t (outcome s o)) (ruled g past (timed t (outcome s o)))
        go true p = let n = eqb-true (nfm_now g past) 1 p in rw (failure_20 e n) (backed_off a e n)
        go false p = let n = eqb-false (nfm_now g past) 1 p in rw (failure_23 e n) (in_its_place a e n)

  failure_other : (t s cause second column : ℕ) → Accepted g past t (outcome s (rejected cause second column)) → to_back_off (rejected cause second column) ≡ false
      → ruled g past (timed t (outcome s (rejected cause second column))) ≡ answer (action column cause second) 0
  unfolding verdict failed
  failure_other t s cause second column a e = accepted_verdict g past t (outcome s (rejected cause second column)) a ∙ rw e

  -- ---- The timed reset: a clock call orders it just when it may

  due_then : (t : ℕ) → orders (tells g past) t ≡ true → Due g past t
  unfolding orders is_due on_reset tells
  due_then t e =
      let due = and_left (is_due (tells g past).facts t) _ e in
      let set = and_left (ltb 0 (due_now g past) && leb (due_now g past) t) _ due in
      let some : 0 < due_now g past = ltb-true 0 (due_now g past) (and_left (ltb 0 (due_now g past)) _ set) in
      let free = and_right (is_due (tells g past).facts t) _ e in
      record {
        set = λ z. omega (arith, some, z);
        not_before = leb-true (due_now g past) t (and_right (ltb 0 (due_now g past)) _ set);
        on = eqb-true g.facts.opening.rpm 1 (and_right (ltb 0 (due_now g past) && leb (due_now g past) t) _ due);
        not_full = λ v. false≢true (ap not (sym (over_blocks t (on_reset (tells g past).facts) refl v)) ∙ free);
      }

  ordering : (t : ℕ) → Due g past t → orders (tells g past) t ≡ true
  unfolding orders is_due on_reset tells
  ordering t d =
      let r = on_reset (tells g past).facts in
      let free = not_true (blocks (tells g past) t r) (λ e. d.not_full (blocks_over t r e)) in
      rw (lt-ltb 0 (due_now g past) (omega (arith, d.set)), le-leb (due_now g past) t d.not_before, eq-eqb g.facts.opening.rpm 1 d.on, free)

  module _ (t : ℕ) (a : Accepted g past t tick) where
    tick_12 : Due g past t → ruled g past (timed t tick) ≡ answer 12 0
    unfolding verdict
    tick_12 d = accepted_verdict g past t tick a ∙ rw (ordering t d)

    tick_0 : (Due g past t → ⊥) → ruled g past (timed t tick) ≡ answer 0 0
    unfolding verdict
    tick_0 h = accepted_verdict g past t tick a ∙ rw (not_true (orders (tells g past) t) (λ e. h (due_then t e)))

    tick_given : Given g past (timed t tick) (ruled g past (timed t tick))
    tick_given = go (orders (tells g past) t) refl
      where
        go : (x : Bool) → orders (tells g past) t ≡ x → Given g past (timed t tick) (ruled g past (timed t tick))
        go true e = let d = due_then t e in rw (tick_12 d) (ordered a d)
        go false e =
            let h : Due g past t → ⊥ = λ d. false≢true (sym e ∙ ordering t d) in
            rw (tick_0 h) (on_tick a h)

  -- ---- Any call

  module _ (up : Rises g past) where
    accepted_given : (t : ℕ) (e : Event) → Accepted g past t e → Given g past (timed t e) (ruled g past (timed t e))
    unfolding verdict
    accepted_given t (ask q) a = asked_given t q a up
    accepted_given t (outcome s granted) a = rw (accepted_verdict g past t (outcome s granted) a) (on_grant a)
    accepted_given t (outcome s silent) a = failed_given t s silent a refl
    accepted_given t (outcome s (rejected cause second column)) a = go (to_back_off (rejected cause second column)) refl
      where
        c : Call
        c = timed t (outcome s (rejected cause second column))

        go : (x : Bool) → to_back_off (rejected cause second column) ≡ x → Given g past c (ruled g past c)
        go true e = failed_given t s (rejected cause second column) a e
        go false e = rw (failure_other t s cause second column a e) (other_action a e)
    accepted_given t dropped a = rw (accepted_verdict g past t dropped a) (on_drop a)
    accepted_given t tick a = tick_given t a

    -- what the rules answer is given by a line
    pub ruled_given : (c : Call) → Given g past c (ruled g past c)
    ruled_given (timed t e) = go (in_range e) (timely f t) (stands f e) refl refl refl
      where
        f : Facts
        f = (tells g past).facts

        go : (x y z : Bool) → in_range e ≡ x → timely f t ≡ y → stands f e ≡ z → Given g past (timed t e) (ruled g past (timed t e))
        go false y z p r s = rw (refused_2 g past t e p) (out_of_range (λ h. false≢true (sym p ∙ ranges e h)))
        go true false z p r s = rw (refused_3 g past t e p r) (out_of_time (ranged e p) (λ h. false≢true (sym r ∙ timing g past t h)))
        go true true false p r s =
            rw (refused_4 g past t e p r s) (wrong_standing (ranged e p) (timed_in g past t r) (λ h. false≢true (sym s ∙ fitting g past e (ranged e p) h)))
        go true true true p r s =
            accepted_given t e (record { is_in_range = ranged e p; in_time = timed_in g past t r; fits = fitted g past e (ranged e p) s })
    ruled_given (typed l) =
        ⊎_elim (λ h. rw (line_done g past l h) (on_line h)) (λ h. rw (line_refused g past l h) (not_as_above h)) (as_above g past l)

    -- and what a line gives, the rules answer
    pub given_ruled : (c : Call) (a : Answer) → Given g past c a → a ≡ ruled g past c
    unfolding verdict
    given_ruled _ _ (permitted {t = t} {q = q} a free keeps) = sym (request_permitted t q a free keeps)
    given_ruled _ _ (on_grant {t = t} {s = s} a) = sym (accepted_verdict g past t (outcome s granted) a)
    given_ruled _ _ (on_drop {t = t} a) = sym (accepted_verdict g past t dropped a)
    given_ruled _ _ (on_tick {t = t} a h) = sym (tick_0 t a h)
    given_ruled _ _ (on_line {l = l} h) = sym (line_done g past l h)
    given_ruled _ _ (out_of_range {t = t} {e = e} not_so) = sym (refused_2 g past t e (not_true (in_range e) (λ p. not_so (ranged e p))))
    given_ruled _ _ (out_of_time {t = t} {e = e} r not_so) = sym (refused_3 g past t e (ranges e r) (not_true (timely (tells g past).facts t) (λ p. not_so (timed_in g past t p))))
    given_ruled _ _ (wrong_standing {t = t} {e = e} r i not_so) =
        sym (refused_4 g past t e (ranges e r) (timing g past t i) (not_true (stands (tells g past).facts e) (λ p. not_so (fitted g past e r p))))
    given_ruled _ _ (not_as_above {l = l} not_so) = sym (line_refused g past l not_so)
    given_ruled _ _ (held {t = t} {q = q} a low h) = sym (request_held t q a low h)
    given_ruled _ _ (blocked {t = t} {q = q} {n = n} {L = L} {k = k} a free l v lower u) = sym (request_blocked t q a free n L k l v lower)
    given_ruled _ _ (ordered {t = t} a d) = sym (tick_12 t a d)
    given_ruled _ _ (backed_off {t = t} {s = s} {o = o} a e n) = sym (failure_20 t s o a e n)
    given_ruled _ _ (in_its_place {t = t} {s = s} {o = o} a e n) = sym (failure_23 t s o a e n)
    given_ruled _ _ (other_action {t = t} {s = s} {cause = cause} {second = second} {column = column} a e) = sym (failure_other t s cause second column a e)

    -- so no call is given two answers
    pub one_answer : (c : Call) (a b : Answer) → Given g past c a → Given g past c b → a ≡ b
    one_answer c a b x y = given_ruled c a x ∙ sym (given_ruled c b y)
