-- Document 01's idle versions, over one record: S1 is 1, an SMS was permitted at 0 and granted at
-- 1. Whoever always permits, always blocks, never backs off, or answers as if nothing had been
-- called yet, does not keep the sentences of demand 3; nor does who holds the rejected registration
-- alone where both must be, or who never orders a reset, or at every clock call. Assumes nothing.
use Prim.Native.Nat.{ℕ, ◌≤◌}
use mathlib.Core.Path.{◌≡◌, refl, ap}
use mathlib.Core.List.{List, [], ◌∷◌}
use mathlib.Core.Logic.{inl, inr, ◌≢◌}
use native.Mathlib.Omega.{arith}
use Rattle.mixing.specs.Mixing.{mixed}
use Rattle.rules.specs.declared.Answer.{Answer}
use Rattle.rules.specs.Calls.{Opening, ask, outcome, granted, silent, rejected, tick, Call, timed, Entry, entry, answer}
use Rattle.rules.specs.Causes.{printed, action, both}
use Rattle.rules.specs.Tables.{within, sms, wait_for, permanent, delay_for}
use Rattle.rules.specs.State.{State, fresh}
use Rattle.rules.specs.Record.{last_time, nfm_now, start_now, intervals_now, permits, in_a_row, failures, back_off_end, standing, mood, due_now, counter}
use Rattle.rules.specs.Rules.{limits, blocks, in_range, stands, refusal, runs, verdict, ruling}
use Rattle.rules.specs.Told.{tells, ruled}
use Rattle.rules.specs.Direct.{Accepted, N1, F1, F2, F3, F4, A1, S1, backs_off, Due, Orders, orders, by_permit, Breaks, back_off, limit, Direct}

abbrev pub o : Opening
o = record { opened = 0; imsi = 1; rpm = 1; N1 = 0; T1 = 0; F1 = 0; F2 = 0; F3 = 0; F4 = 0; A1 = 0; S1 = 1; LR1 = 0; LR2 = 0; LR3 = 0 }

-- a new buffer, the record of an SMS that was asked for, and that of its grant
abbrev pub g : State
g = fresh o 1 (60 ∷ []) (0 ∷ 0 ∷ 0 ∷ 0 ∷ 0 ∷ 0 ∷ [])

abbrev pub asked : List Entry
asked = entry (timed 0 (ask 3)) (answer 0 0) ∷ []

abbrev pub sent : List Entry
sent = entry (timed 1 (outcome 3 granted)) (answer 0 0) ∷ asked

-- the second SMS of an hour is one too many
permits_two : (next : Call → Answer) → (next (timed 2 (ask 3))).number ≡ 0 → Direct g sent next → ⊥
unfolding fresh within permits
permits_two next e d =
    let h : 2 ≤ 1 = rw e at (d.at_most 2 (timed 2 (ask 3)) 3 (rw e by_permit) 18 1 sms (S1 refl) (omega arith)) in
    omega arith

pub always_permits : (next : Call → Answer) → ((t q : ℕ) → (next (timed t (ask q))).number ≡ 0) → Direct g sent next → ⊥
always_permits next all d = permits_two next (all 2 3) d

-- right on the first call, pretending later
pub as_if_first : (next : Call → Answer) → ((c : Call) → next c ≡ ruled g [] c) → Direct g sent next → ⊥
unfolding fresh within last_time nfm_now start_now intervals_now permits in_a_row failures back_off_end standing mood counter limits blocks in_range stands refusal runs verdict ruling tells
as_if_first next first d = permits_two next (ap (λ (a : Answer). a.number) (first (timed 2 (ask 3)))) d

-- nothing stands against the first SMS
nothing_breaks : (n : ℕ) → Breaks g [] 0 3 n → ⊥
unfolding fresh within permits back_off_end
nothing_breaks n (back_off low h) = omega arith
nothing_breaks n (limit (N1 p e) v) = omega arith
nothing_breaks n (limit (F1 p e m) v) = omega arith
nothing_breaks n (limit (F2 p e m) v) = omega arith
nothing_breaks n (limit (F3 p e m) v) = omega arith
nothing_breaks n (limit (F4 p (inl e)) v) = omega arith
nothing_breaks n (limit (F4 p (inr e)) v) = omega arith
nothing_breaks n (limit (A1 (inl e)) v) = omega arith
nothing_breaks n (limit (A1 (inr e)) v) = omega arith
nothing_breaks n (limit (S1 e) v) = omega (arith, v.over)

pub always_blocks : (next : Call → Answer) → ((t q : ℕ) → (next (timed t (ask q))).number ≢ 0) → Direct g [] next → ⊥
unfolding fresh last_time standing
always_blocks next none d = none 0 3 (ap (λ (a : Answer). a.number) (d.else_permitted 0 3 accepted nothing_breaks))
  where
    accepted : Accepted g [] 0 (ask 3)
    accepted = record { is_in_range = omega arith; in_time = record { not_below = omega arith; not_above = omega arith }; fits = ((λ low. refl), (λ e. absurd (omega arith))) }

pub never_backs_off : (next : Call → Answer) → ((c : Call) → (next c).number ≢ 20) → Direct g asked next → ⊥
unfolding fresh last_time nfm_now standing
never_backs_off next never d =
    never (timed 1 (outcome 3 silent)) (ap (λ (a : Answer). a.number) (d.backs_off_then 1 3 silent (backs_off accepted refl refl)))
  where
    accepted : Accepted g asked 1 (outcome 3 silent)
    accepted = record { is_in_range = omega arith; in_time = record { not_below = omega arith; not_above = omega arith }; fits = refl }

-- GPRS registration was rejected with GMM 8, which is for both
abbrev pub refused_both : List Entry
refused_both = entry (timed 1 (outcome 1 (rejected 8 0 1))) (answer 20 60) ∷ entry (timed 0 (ask 1)) (answer 0 0) ∷ []

pub holds_one : (next : Call → Answer) → (next (timed 2 (ask 0))).number ≡ 0 → Direct g refused_both next → ⊥
unfolding fresh nfm_now intervals_now in_a_row failures back_off_end printed action both wait_for
holds_one next e d = omega (arith, d.no_permit_in_back_off 2 0 e (omega arith))

-- GSM registration was rejected with MM 2 at 1, and T1 is 1: the reset is due at 1 + 324 to 1 + 396
abbrev pub waiting : State
waiting = fresh (record { opened = 0; imsi = 1; rpm = 1; N1 = 1; T1 = 1; F1 = 0; F2 = 0; F3 = 0; F4 = 0; A1 = 0; S1 = 0; LR1 = 0; LR2 = 0; LR3 = 0 }) 0
    (60 ∷ []) (0 ∷ 0 ∷ 0 ∷ 0 ∷ 0 ∷ 0 ∷ [])

abbrev pub sat_dead : List Entry
sat_dead = entry (timed 1 (outcome 0 (rejected 2 0 0))) (answer 23 0) ∷ entry (timed 0 (ask 0)) (answer 0 0) ∷ []

pub never_orders : (next : Call → Answer) → ((c : Call) → (next c).number ≢ 12) → Direct waiting sat_dead next → ⊥
unfolding fresh within last_time permits due_now permanent delay_for mixed
never_orders next never d = never (timed 397 tick) (ap (λ (a : Answer). a.number) (d.orders_then (timed 397 tick) (orders accepted due)))
  where
    accepted : Accepted waiting sat_dead 397 tick
    accepted = record { is_in_range = tt; in_time = record { not_below = omega arith; not_above = omega arith }; fits = tt }

    due : Due waiting sat_dead 397
    due = record { set = omega arith; not_before = omega arith; on = refl; not_full = λ v. omega (arith, v.over) }

-- nothing was rejected yet
pub always_orders : (next : Call → Answer) → ((t : ℕ) → (next (timed t tick)).number ≡ 12) → Direct waiting [] next → ⊥
unfolding fresh due_now
always_orders next all d = go (d.orders_only_then (timed 0 tick) (all 0))
  where
    go : Orders waiting [] (timed 0 tick) → ⊥
    go (orders x due) = due.set refl
