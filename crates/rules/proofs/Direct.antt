-- Whoever gives each number when its line says keeps the sentences of demand 3, over any record
-- whose permits rise: they follow from the lines, without the rules. Assumes nothing.
use Prim.Native.Nat.{ℕ, ◌+◌, ◌-◌, ◌≤◌, ◌<◌}
use mathlib.Core.Path.{◌≡◌, refl, sym, ap, ◌∙◌}
use mathlib.Core.Bool.{Bool, true, false, cond, ◌&&◌, false≢true}
use mathlib.Core.List.{List, [], ◌∷◌, ◌++◌}
use mathlib.Core.Logic.{inl, inr, ◌≢◌}
use lib.Dec.{ltb, eqb}
use borrow.Author.Tests.{ltb-true, ltb-false, lt-ltb, eqb-true, eq-eqb, ne_eqb}
use native.Mathlib.Omega.{arith}
use Rattle.rules.specs.declared.Answer.{Answer}
use Rattle.rules.specs.Calls.{Opening, C_R_1, Outcome, Event, ask, outcome, granted, silent, rejected, dropped, tick, Call, timed, typed, Entry, entry, answer}
use Rattle.rules.specs.Causes.{action}
use Rattle.rules.specs.Tables.{in_hour, from_newest, free_in, Kind, goes, among, limiting, one_more, permanent, delay_for}
use Rattle.rules.specs.State.{State}
use Rattle.rules.specs.Record.{last_time, permits, standing, starts_t1, due_now, leaked, counter}
use Rattle.rules.specs.Direct.{Accepted, Limited, N1, F1, F2, F3, F4, A1, S1, Over, WithinLimits, Free, next_wait, BacksOff, backs_off, RunsT1, runs, Due, Orders, orders, Sends, by_permit, by_order, Given, permitted, on_grant, on_drop, on_tick, on_line, out_of_range, out_of_time, wrong_standing, not_as_above, held, blocked, ordered, backed_off, in_its_place, other_action, Breaks, back_off, limit, Direct}
use Rattle.rules.proofs.Checks.{and_left, and_right, action_low}
use Rattle.rules.proofs.Newest.{rising_more}
use Rattle.rules.proofs.Hour.{rising_at}
use Rattle.rules.proofs.Limited.{either}
use Rattle.rules.proofs.Given.{Rises}
use Rattle.rules.proofs.Reached.{waits_reached, stays_unreached}

module _ (g : State) (past : List Entry) where
  -- a limit's number, and the list that it counts: its request's permit goes there
  pub limit_number : {q n L : ℕ} {k : Kind} → Limited g past q n L k → (11 ≤ n) × (n ≤ 18)
  limit_number (N1 p e) = omega arith
  limit_number (F1 p e m) = omega arith
  limit_number (F2 p e m) = omega arith
  limit_number (F3 p e m) = omega arith
  limit_number (F4 p e) = omega arith
  limit_number (A1 e) = omega arith
  limit_number (S1 e) = omega arith

  counts_own : {q n L : ℕ} {k : Kind} → Limited g past q n L k → goes q k ≡ true
  counts_own {q} (N1 p e) = eq-eqb q 5 e
  counts_own {q} (F1 p e m) = eq-eqb q 2 e
  counts_own {q} (F2 p e m) = eq-eqb q 2 e
  counts_own {q} (F3 p e m) = eq-eqb q 2 e
  counts_own {q} (F4 p e) = either q 2 4 e
  counts_own {q} (A1 e) = either q 0 1 e
  counts_own {q} (S1 e) = eq-eqb q 3 e

  -- ---- What a request's answer tells

  -- of a permit: no back-off holds it
  not_held : {t q : ℕ} {a : Answer} → Given g past (timed t (ask q)) a → a.number ≡ 0 → Free g past t q
  not_held (permitted x free keeps) e = free
  not_held (out_of_range x) e = absurd (omega arith)
  not_held (out_of_time x y) e = absurd (omega arith)
  not_held (wrong_standing x y z) e = absurd (omega arith)
  not_held (held x low h) e = absurd (omega arith)
  not_held (blocked x free l v lower u) e = absurd (omega (arith, (limit_number l).0))

  -- a permit that is not one too many leaves at most L in its hour, itself counted
  pub not_over : (t L : ℕ) (k : Kind) → 0 < L → (Over g past t L k → ⊥) → in_hour t (permits g k past ++ (t ∷ [])) ≤ L
  not_over t L k above keeps = go (ltb L n) refl
    where
      n : ℕ
      n = in_hour t (permits g k past ++ (t ∷ []))

      go : (b : Bool) → ltb L n ≡ b → n ≤ L
      go true e = absurd (keeps (record { above = above; over = ltb-true L n e }))
      go false e = ltb-false L n e

  -- of whatever sends a request: no limit on it would be broken
  pub record Sent (t q : ℕ) : Type 0 where
    pub late : last_time g past ≤ t
    pub keeps : WithinLimits g past t q

  -- N1 alone limits a reset
  in_N1 : {t n L : ℕ} {k : Kind} → Due g past t → Limited g past 5 n L k → Over g past t L k → ⊥
  in_N1 d (N1 p e) v = d.not_full v
  in_N1 d (F1 p e m) v = omega arith
  in_N1 d (F2 p e m) v = omega arith
  in_N1 d (F3 p e m) v = omega arith
  in_N1 d (F4 p (inl e)) v = omega arith
  in_N1 d (F4 p (inr e)) v = omega arith
  in_N1 d (A1 (inl e)) v = omega arith
  in_N1 d (A1 (inr e)) v = omega arith
  in_N1 d (S1 e) v = omega arith

  pub sent : {t m q : ℕ} {c : Call} {a : Answer} → Given g past c a → a.number ≡ m → Sends t c m q → Sent t q
  sent (permitted x free keeps) e by_permit = record { late = x.in_time.not_below; keeps = keeps }
  sent (out_of_range x) e by_permit = absurd (omega arith)
  sent (out_of_time x y) e by_permit = absurd (omega arith)
  sent (wrong_standing x y z) e by_permit = absurd (omega arith)
  sent (held x low h) e by_permit = absurd (omega arith)
  sent (blocked x free l v lower u) e by_permit = absurd (omega (arith, (limit_number l).0))
  sent (on_tick x h) e by_order = absurd (omega arith)
  sent (out_of_range x) e by_order = absurd (omega arith)
  sent (out_of_time x y) e by_order = absurd (omega arith)
  sent (wrong_standing x y z) e by_order = absurd (omega arith)
  sent (ordered x d) e by_order = record { late = x.in_time.not_below; keeps = λ n L k. in_N1 d }
  sent (on_grant x) e z = elim z [ ]
  sent (on_drop x) e z = elim z [ ]
  sent (on_line x) e z = elim z [ ]
  sent (not_as_above x) e z = elim z [ ]
  sent (backed_off x f n) e z = elim z [ ]
  sent (in_its_place x f n) e z = elim z [ ]
  sent (other_action x f) e z = elim z [ ]

  listed : {t m q : ℕ} {c : Call} (a : Answer) → Sends t c m q → a.number ≡ m → (k : Kind) → goes q k ≡ true
      → permits g k (entry c a ∷ past) ≡ permits g k past ++ (t ∷ [])
  unfolding permits
  listed a by_permit e k h = rw (e, h)
  listed a by_order e k h = rw (e, h)

  few : (t m q : ℕ) (c : Call) (a : Answer) → Sends t c m q → Given g past c a → a.number ≡ m → (n L : ℕ) (k : Kind) → Limited g past q n L k → 0 < L
      → in_hour t (permits g k (entry c a ∷ past)) ≤ L
  few t m q c a s x e n L k l above = rw (listed a s e k (counts_own l)) (not_over t L k above ((sent x e s).keeps n L k l))

  reset_free : {t : ℕ} {a : Answer} → Given g past (timed t (ask 5)) a → a.number ≢ 10
  reset_free (permitted x free keeps) e = omega arith
  reset_free (out_of_range x) e = omega arith
  reset_free (out_of_time x y) e = omega arith
  reset_free (wrong_standing x y z) e = omega arith
  reset_free (held x low h) e = omega arith
  reset_free (blocked x free l v lower u) e = omega (arith, (limit_number l).0)

  -- of any answer to a request that passes the checks
  breaks : {t q : ℕ} {a : Answer} → Given g past (timed t (ask q)) a → Accepted g past t (ask q) → a.number ≢ 0 → Breaks g past t q a.number
  breaks (permitted x free keeps) y e = absurd (e refl)
  breaks (out_of_range x) y e = absurd (x y.is_in_range)
  breaks (out_of_time r x) y e = absurd (x y.in_time)
  breaks (wrong_standing r i x) y e = absurd (x y.fits)
  breaks (held x low h) y e = back_off low h
  breaks (blocked x free l v lower u) y e = limit l v

  else_permits : {t q : ℕ} {a : Answer} → Given g past (timed t (ask q)) a → Accepted g past t (ask q) → ((n : ℕ) → Breaks g past t q n → ⊥)
      → a ≡ answer 0 0
  else_permits (permitted x free keeps) y h = refl
  else_permits (out_of_range x) y h = absurd (x y.is_in_range)
  else_permits (out_of_time r x) y h = absurd (x y.in_time)
  else_permits (wrong_standing r i x) y h = absurd (x y.fits)
  else_permits (held x low e) y h = absurd (h 10 (back_off low e))
  else_permits (blocked {n = n} x free l v lower u) y h = absurd (h n (limit l v))

  -- a limit's seconds: some are left, and none that it counts is after now
  seconds : (up : Rises g past) {t q : ℕ} {a : Answer} → Given g past (timed t (ask q)) a → among a.number limiting ≡ true → (1 ≤ a.second) × (a.second ≤ 3600)
  seconds up (permitted x free keeps) e = absurd (false≢true e)
  seconds up (out_of_range x) e = absurd (false≢true e)
  seconds up (out_of_time r x) e = absurd (false≢true e)
  seconds up (wrong_standing r i x) e = absurd (false≢true e)
  seconds up (held x low h) e = absurd (false≢true e)
  seconds up {t = t} (blocked {L = L} {k = k} x free l v lower u) e = (go (ltb 0 m) refl, omega (arith, past_time))
    where
      m : ℕ
      m = free_in t L (permits g k past)

      past_time : from_newest L (permits g k past) ≤ t
      past_time =
          let b = rising_more _ (permits g k past) _ t (up k) x.in_time.not_below in
          rising_at _ t _ (permits g k past) b

      go : (b : Bool) → ltb 0 m ≡ b → 1 ≤ m
      go true z = ltb-true 0 m z
      go false z = let n = ltb-false 0 m z in absurd (u.then t (omega arith) v)

  -- ---- What an outcome's answer tells

  waits : {t s : ℕ} {o : Outcome} {a : Answer} → Given g past (timed t (outcome s o)) a → BacksOff g past (timed t (outcome s o)) → a ≡ answer 20 (next_wait g past s)
  waits (on_grant x) (backs_off y e n) = absurd (false≢true e)
  waits (out_of_range x) (backs_off y e n) = absurd (x y.is_in_range)
  waits (out_of_time r x) (backs_off y e n) = absurd (x y.in_time)
  waits (wrong_standing r i x) (backs_off y e n) = absurd (x y.fits)
  waits (backed_off x f m) (backs_off y e n) = refl
  waits (in_its_place x f m) (backs_off y e n) = absurd (m n)
  waits (other_action x f) (backs_off y e n) = absurd (false≢true (sym f ∙ e))

  twenty : {c : Call} {a : Answer} → Given g past c a → a.number ≡ 20 → BacksOff g past c
  twenty (permitted x free keeps) e = absurd (omega arith)
  twenty (on_grant x) e = absurd (omega arith)
  twenty (on_drop x) e = absurd (omega arith)
  twenty (on_tick x h) e = absurd (omega arith)
  twenty (ordered x d) e = absurd (omega arith)
  twenty (on_line x) e = absurd (omega arith)
  twenty (out_of_range x) e = absurd (omega arith)
  twenty (out_of_time r x) e = absurd (omega arith)
  twenty (wrong_standing r i x) e = absurd (omega arith)
  twenty (not_as_above x) e = absurd (omega arith)
  twenty (held x low h) e = absurd (omega arith)
  twenty (blocked x free l v lower u) e = absurd (omega (arith, (limit_number l).1))
  twenty (backed_off x f n) e = backs_off x f n
  twenty (in_its_place x f n) e = absurd (omega arith)
  twenty (other_action {cause = cause} {second = second} {column = column} x f) e = absurd (false≢true (sym f ∙ eq-eqb (action column cause second) 20 e))

  -- ---- What a clock call's answer tells

  -- 12 is no limit's number
  limit_not_12 : {q n L : ℕ} {k : Kind} → Limited g past q n L k → n ≢ 12
  limit_not_12 (N1 p e) h = omega arith
  limit_not_12 (F1 p e m) h = omega arith
  limit_not_12 (F2 p e m) h = omega arith
  limit_not_12 (F3 p e m) h = omega arith
  limit_not_12 (F4 p e) h = omega arith
  limit_not_12 (A1 e) h = omega arith
  limit_not_12 (S1 e) h = omega arith

  twelve : {c : Call} {a : Answer} → Given g past c a → a.number ≡ 12 → Orders g past c
  twelve (permitted x free keeps) e = absurd (omega arith)
  twelve (on_grant x) e = absurd (omega arith)
  twelve (on_drop x) e = absurd (omega arith)
  twelve (on_tick x h) e = absurd (omega arith)
  twelve (on_line x) e = absurd (omega arith)
  twelve (out_of_range x) e = absurd (omega arith)
  twelve (out_of_time r x) e = absurd (omega arith)
  twelve (wrong_standing r i x) e = absurd (omega arith)
  twelve (not_as_above x) e = absurd (omega arith)
  twelve (held x low h) e = absurd (omega arith)
  twelve (blocked x free l v lower u) e = absurd (limit_not_12 l e)
  twelve (ordered x d) e = orders x d
  twelve (backed_off x f n) e = absurd (omega arith)
  twelve (in_its_place x f n) e = absurd (omega arith)
  twelve (other_action {cause = cause} {second = second} {column = column} x f) e = absurd (omega (arith, action_low column cause second))

  reset_now : {c : Call} {a : Answer} → Given g past c a → Orders g past c → a ≡ answer 12 0
  reset_now (on_tick x h) (orders y d) = absurd (h d)
  reset_now (out_of_range x) (orders y d) = absurd (x y.is_in_range)
  reset_now (out_of_time r x) (orders y d) = absurd (x y.in_time)
  reset_now (wrong_standing r i x) (orders y d) = absurd (x y.fits)
  reset_now (ordered x h) (orders y d) = refl
  reset_now (permitted x free keeps) z = elim z [ ]
  reset_now (on_grant x) z = elim z [ ]
  reset_now (on_drop x) z = elim z [ ]
  reset_now (on_line x) z = elim z [ ]
  reset_now (not_as_above x) z = elim z [ ]
  reset_now (held x low h) z = elim z [ ]
  reset_now (blocked x free l v lower u) z = elim z [ ]
  reset_now (backed_off x f n) z = elim z [ ]
  reset_now (in_its_place x f n) z = elim z [ ]
  reset_now (other_action x f) z = elim z [ ]

  -- ---- What is known after an answer

  one_more_reset : (t : ℕ) (a : Answer) → a.number ≡ 12 → counter g C_R_1 (entry (timed t tick) a ∷ past)
      ≡ one_more (leaked g.facts.opening.opened g.facts.opening.LR2 (last_time g past) (t - last_time g past) (counter g C_R_1 past))
  unfolding counter
  one_more_reset t a e = rw e

  all_idle : {t m : ℕ} {c : Call} (a : Answer) → Sends t c m 5 → a.number ≡ m → (s : ℕ) → standing g s (entry c a ∷ past) ≡ 0
  unfolding standing
  all_idle a by_permit e s = rw e
  all_idle a by_order e s = rw e

  none_due : {t m : ℕ} {c : Call} (a : Answer) → Sends t c m 5 → a.number ≡ m → due_now g (entry c a ∷ past) ≡ 0
  unfolding due_now
  none_due a by_permit e = rw e
  none_due a by_order e = rw e

  kept : (b : Bool) (x y : ℕ) → cond (b && false) x y ≡ y
  kept true x y = refl
  kept false x y = refl

  pub due_kept : (c : Call) (a : Answer) → ((t : ℕ) → Sends t c a.number 5 → ⊥) → due_now g past ≢ 0 → due_now g (entry c a ∷ past) ≡ due_now g past
  unfolding due_now
  due_kept (timed t (ask q)) a h z = go (eqb a.number 0) (eqb q 5) refl refl
    where
      go : (x y : Bool) → eqb a.number 0 ≡ x → eqb q 5 ≡ y → cond (x && y) 0 (due_now g past) ≡ due_now g past
      go true true e f = absurd (h t (rw (eqb-true a.number 0 e, eqb-true q 5 f) by_permit))
      go true false e f = refl
      go false y e f = refl
  due_kept (timed t (outcome s x)) a h z = rw (ne_eqb (due_now g past) 0 z) (kept (starts_t1 g.facts.opening x) _ (due_now g past))
  due_kept (timed t dropped) a h z = refl
  due_kept (timed t tick) a h z = go (eqb a.number 12) refl
    where
      go : (x : Bool) → eqb a.number 12 ≡ x → cond x 0 (due_now g past) ≡ due_now g past
      go true e = absurd (h t (rw (eqb-true a.number 12 e) by_order))
      go false e = refl
  due_kept (typed l) a h z = refl

  pub due_set : (t : ℕ) (e : Event) (a : Answer) → RunsT1 g past (timed t e) → due_now g past ≡ 0
      → due_now g (entry (timed t e) a ∷ past) ≡ t + delay_for g.facts.opening.imsi g.facts.opening.T1
  unfolding due_now
  due_set t (outcome s (rejected cause second column)) a (runs p above on) z =
      rw (p, lt-ltb 0 g.facts.opening.T1 above, eq-eqb g.facts.opening.rpm 1 on, eq-eqb (due_now g past) 0 z)
  due_set t (ask q) a h z = elim h [ ]
  due_set t (outcome s granted) a h z = elim h [ ]
  due_set t (outcome s silent) a h z = elim h [ ]
  due_set t dropped a h z = elim h [ ]
  due_set t tick a h z = elim h [ ]

  zero : (b : Bool) {n : ℕ} → n ≡ 0 → cond b 0 n ≡ 0
  zero true z = refl
  zero false z = z

  not_set : (c : Call) (a : Answer) → (RunsT1 g past c → ⊥) → due_now g past ≡ 0 → due_now g (entry c a ∷ past) ≡ 0
  unfolding due_now
  not_set (timed t (ask q)) a h z = zero (eqb a.number 0 && eqb q 5) z
  not_set (timed t (outcome s granted)) a h z = z
  not_set (timed t (outcome s silent)) a h z = z
  not_set (timed t (outcome s (rejected cause second column))) a h z = go (starts_t1 g.facts.opening (rejected cause second column)) refl
    where
      o : Opening
      o = g.facts.opening

      go : (b : Bool) → starts_t1 o (rejected cause second column) ≡ b → cond (b && eqb (due_now g past) 0) (t + delay_for o.imsi o.T1) (due_now g past) ≡ 0
      go false e = z
      go true e =
          let rest = and_right (permanent column cause) _ e in
          absurd (h (runs (and_left (permanent column cause) _ e) (ltb-true 0 o.T1 (and_left (ltb 0 o.T1) _ rest)) (eqb-true o.rpm 1 (and_right (ltb 0 o.T1) _ rest))))
  not_set (timed t dropped) a h z = z
  not_set (timed t tick) a h z = zero (eqb a.number 12) z
  not_set (typed l) a h z = z

  -- ---- The sentences

  pub sentences : Rises g past → (next : Call → Answer) → ((c : Call) → Given g past c (next c)) → Direct g past next
  sentences up next lines = record {
    given = lines;
    no_permit_in_back_off = λ t q e. not_held (lines (timed t (ask q))) e;
    resets_not_held = λ t. reset_free (lines (timed t (ask 5)));
    listed_then = λ t c q s. listed (next c) s refl;
    at_most = λ t c q s. few t (next c).number q c (next c) s (lines c) refl;
    blocked_by_a_rule = λ t q x e. breaks (lines (timed t (ask q))) x e;
    else_permitted = λ t q x h. else_permits (lines (timed t (ask q))) x h;
    an_hour_at_most = λ t q e. seconds up (lines (timed t (ask q))) e;
    backs_off_then = λ t s o x. waits (lines (timed t (outcome s o))) x;
    and_only_then = λ c e. twenty (lines c) e;
    each_for_its_wait = λ t s o x u r. waits_reached g past t s o (next (timed t (outcome s o))) x u r;
    and_no_other = λ t s o x u r. stays_unreached g past t s o (next (timed t (outcome s o))) x u r;
    orders_then = λ c x. reset_now (lines c) x;
    orders_only_then = λ c e. twelve (lines c) e;
    counted_then = λ t x. one_more_reset t (next (timed t tick)) (ap (λ (a : Answer). a.number) (reset_now (lines (timed t tick)) x));
    all_idle_then = λ t c x. all_idle (next c) x refl;
    due_no_more = λ t c x. none_due (next c) x refl;
    else_stays = λ c h z. due_kept c (next c) h z;
    set_then = λ t e x z. due_set t e (next (timed t e)) x z;
    set_only_then = λ c h z. not_set c (next c) h z;
  }
