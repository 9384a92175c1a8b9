-- The rules: what the gate knows, how it answers a call by that, and what it knows after the answer. Assumes nothing.
use Rattle.std.specs.Prelude.{ℕ, ◌+◌, ◌-◌, ◌*◌, ◌/◌, Bool, true, false, cond, not, ◌&&◌, ◌||◌, List, [], ◌∷◌, ◌++◌, length, get_or, set, drop, ltb, leb, eqb}
use Rattle.rules.specs.declared.Answer.{Answer}
use Rattle.rules.specs.Calls.{Outcome, Event, ask, outcome, granted, silent, rejected, dropped, tick, Line, nfm, nfm_start, intervals, query, bad, Call, timed, typed, answer}
use Rattle.rules.specs.State.{Facts, Services, State, with_last, with_mode, with_counters, with_services, with_due, with_standing, with_backoffs, idle}
use Rattle.rules.specs.Causes.{action, both, reaches, belongs}
use Rattle.rules.specs.Tables.{highest_time, in_hour, free_in, Kind, attach, activation, pdp, sms, reset, goes, among, refusals, counting, mood_on, one_more, wait_for, permanent, delay_for, scheduled, four}

-- ---- The limits

pub record Limit : Type 0 where
  pub number : ℕ
  pub applies : Bool
  pub most : ℕ
  pub kind : Kind

abbrev pub limit : ℕ → Bool → ℕ → Kind → Limit
limit n b m k = record { number = n; applies = b; most = m; kind = k }

-- the limits on request q, in the order in which they are looked at
unfoldable pub limits : Facts → ℕ → List Limit
limits f q =
    let o = f.opening in
    let on = eqb o.rpm 1 in
    let mood = f.services.mood in
    limit 11 (on && eqb q 5) o.N1 reset
    ∷ limit 13 (on && (eqb q 2 && eqb mood 1)) o.F1 activation
    ∷ limit 14 (on && (eqb q 2 && eqb mood 2)) o.F2 activation
    ∷ limit 15 (on && (eqb q 2 && eqb mood 3)) o.F3 activation
    ∷ limit 16 (on && (eqb q 2 || eqb q 4)) o.F4 pdp
    ∷ limit 17 (eqb q 0 || eqb q 1) o.A1 attach
    ∷ limit 18 (eqb q 3) o.S1 sms
    ∷ []

-- a limit L blocks when it applies, is not zero, and L or more are in the hour already
unfoldable pub blocks : State → ℕ → Limit → Bool
blocks w t r = r.applies && (ltb 0 r.most && leb r.most (in_hour t (w.lists r.kind)))

-- what a limit that blocks answers: its number, and the seconds until it would permit by itself
abbrev pub blocked_by : State → ℕ → Limit → Answer
blocked_by w t r = answer r.number (free_in t r.most (w.lists r.kind))

-- the first limit that blocks answers, and 0 if none does
abbrev pub first_block : State → ℕ → List Limit → Answer
first_block w t [] = answer 0 0
first_block w t (r ∷ rs) = cond (blocks w t r) (blocked_by w t r) (first_block w t rs)

-- ---- Checks 2 to 5, in their order

-- the first check that fails, and 0 if none does
abbrev pub check : Bool → ℕ → ℕ → ℕ
check ok n rest = cond ok rest n

-- 2: request, service, cause and flag in range, and a column of the service
unfoldable pub in_range : Event → Bool
in_range (ask q) = leb q 5
in_range (outcome s granted) = leb s 3
in_range (outcome s silent) = leb s 3
in_range (outcome s (rejected cause second column)) = leb s 3 && (leb cause 255 && (leb second 1 && belongs column s))
in_range dropped = true
in_range tick = true

-- 3: not below the last time, nor above the highest
abbrev pub timely : Facts → ℕ → Bool
timely f t = leb f.last t && leb t highest_time

-- 4: the standing that the event needs
abbrev pub standing : Facts → ℕ → ℕ
standing f s = get_or f.services.standing s 0

unfoldable pub stands : Facts → Event → Bool
stands f (ask q) = cond (leb q 3) (eqb (standing f q) 0) (cond (eqb q 4) (eqb (standing f 2) 2) true)
stands f (outcome s o) = eqb (standing f s) 1
stands f dropped = eqb (standing f 2) 2
stands f tick = true

unfoldable pub refusal : Facts → Call → ℕ
refusal f (timed t e) = check (in_range e) 2 (check (timely f t) 3 (check (stands f e) 4 0))
refusal f (typed (nfm a)) = check (leb a 1) 5 0
refusal f (typed (nfm_start a s)) = check (leb a 1 && leb s 1) 5 0
refusal f (typed (intervals l)) = check (scheduled l) 5 0
refusal f (typed query) = 0
refusal f (typed bad) = 5

-- ---- The answer

-- the back-off of a service runs while t < end
unfoldable pub runs : Facts → ℕ → ℕ → Bool
runs f t q = leb q 3 && ltb t (get_or f.services.ends q 0)

-- the wait of service s with one more failure
unfoldable pub wait : Facts → ℕ → ℕ
wait f s = wait_for f.opening.imsi f.mode.intervals (one_more (get_or f.services.failures s 0))

-- the answer to an outcome of service s whose action is n; with NFM 0, 23 in place of 20
unfoldable pub failed : Facts → ℕ → ℕ → Answer
failed f s n = cond (eqb n 20) (cond (eqb f.mode.nfm 1) (answer 20 (wait f s)) (answer 23 0)) (answer n 0)

-- a reset is due, not after t, and RPM is 1
unfoldable pub is_due : Facts → ℕ → Bool
is_due f t = (ltb 0 f.due && leb f.due t) && eqb f.opening.rpm 1

-- N1, on a reset while RPM is 1
unfoldable pub on_reset : Facts → Limit
on_reset f = limit 11 true f.opening.N1 reset

-- a clock call at t orders a reset: it is due, and N1 does not block it
unfoldable pub orders : State → ℕ → Bool
orders w t = is_due w.facts t && not (blocks w t (on_reset w.facts))

-- the answer to a call that no check refuses; to an AT line the bytes of OK CR LF, and for the read those of +NFM: a,s CR LF besides
unfoldable pub verdict : State → Call → Answer
verdict w (timed t (ask q)) =
    cond (runs w.facts t q)
    (answer 10 (get_or w.facts.services.ends q 0 - t))
    (first_block w t (limits w.facts q))
verdict w (timed t (outcome s granted)) = answer 0 0
verdict w (timed t (outcome s silent)) = failed w.facts s 20
verdict w (timed t (outcome s (rejected cause second column))) = failed w.facts s (action column cause second)
verdict w (timed t dropped) = answer 0 0
verdict w (timed t tick) = cond (orders w t) (answer 12 0) (answer 0 0)
verdict w (typed (nfm a)) = answer 0 4
verdict w (typed (nfm_start a s)) = answer 0 4
verdict w (typed (intervals l)) = answer 0 4
verdict w (typed query) = answer 0 15
verdict w (typed bad) = answer 5 0

unfoldable pub ruling : State → Call → Answer
ruling w c = cond (eqb (refusal w.facts c) 0) (verdict w c) (answer (refusal w.facts c) 0)

abbrev pub refused : Answer → Bool
refused a = among a.number refusals

-- ---- What an answered call changes

-- leak points from the opening up to time x; a division by 0, for a rate of 0, gives 0
unfoldable pub points : Facts → ℕ → ℕ → ℕ
points f rate x = (x - f.opening.opened) / (rate * 3600)

-- counter i when the clock goes to t
abbrev pub drained : Facts → ℕ → ℕ → ℕ → ℕ
drained f t rate i = get_or f.counters i 0 - (points f rate t - points f rate f.last)

-- the clock goes to t
unfoldable pub moved : ℕ → Facts → Facts
moved t f =
    let o = f.opening in
    with_counters (with_last f t)
    (drained f t o.LR1 0
    ∷ drained f t o.LR2 1
    ∷ drained f t o.LR3 2
    ∷ drained f t o.LR3 3
    ∷ drained f t o.LR3 4
    ∷ drained f t o.LR3 5
    ∷ [])

-- a block by N1 or F1-F4, and an ordered reset, raises its counter
abbrev pub raised : ℕ → List ℕ → List ℕ
raised i l = set l i (one_more (get_or l i 0))

unfoldable pub counted : ℕ → List ℕ → List ℕ
counted n l = cond (among n counting) (raised (n - 11) l) l

-- the standing after a permit of request q
unfoldable pub asked : ℕ → List ℕ → List ℕ
asked q l = cond (leb q 3) (set l q 1) (cond (eqb q 4) (set l 2 0) idle)

-- the services after service s was granted
unfoldable pub on_granted : ℕ → Services → Services
on_granted s v = record {
  failures = set v.failures s 0;
  ends = set v.ends s 0;
  standing = set v.standing s (cond (eqb s 2) 2 0);
  mood = cond (eqb s 2) 0 v.mood;
}

-- after a rejection or silence of service s at t; where `back`, each service that it reaches backs
-- off by its own failures and wait; d is service 2's mood
unfoldable pub on_failed : ℕ → ℕ → (back both : Bool) → ℕ → Facts → Services
on_failed t s back both d f =
    let v = f.services in
    record {
      failures = four (λ u. cond (back && reaches both s u) (one_more (get_or v.failures u 0)) (get_or v.failures u 0));
      ends = four (λ u. cond (back && reaches both s u) (t + wait f u) (get_or v.ends u 0));
      standing = set v.standing s 0;
      mood = cond (eqb s 2) d v.mood;
    }

-- after an outcome of service s at t that was answered a
unfoldable pub on_outcome : ℕ → ℕ → Outcome → Answer → Facts → Services
on_outcome t s granted a f = on_granted s f.services
on_outcome t s silent a f = on_failed t s (eqb a.number 20) false 1 f
on_outcome t s (rejected cause second column) a f = on_failed t s (eqb a.number 20) (both column cause) (mood_on cause) f

-- the due time after outcome o at t: a permanent rejection sets it, while T1 is above 0 and RPM is
-- 1, unless one is set
unfoldable pub due_on : ℕ → Outcome → Facts → ℕ
due_on t granted f = f.due
due_on t silent f = f.due
due_on t (rejected cause second column) f =
    let o = f.opening in
    cond ((permanent column cause && (ltb 0 o.T1 && eqb o.rpm 1)) && eqb f.due 0) (t + delay_for o.imsi o.T1) f.due

-- what event e at t, answered a, does beyond the clock; a reset, asked for or ordered, ends the due
-- time
unfoldable pub acted : ℕ → Event → Answer → Facts → Facts
acted t (ask q) a f =
    let v = f.services in
    with_due (with_services (with_counters f (counted a.number f.counters)) (with_standing v (cond (eqb a.number 0) (asked q v.standing) v.standing)))
    (cond (eqb a.number 0 && eqb q 5) 0 f.due)
acted t (outcome s o) a f = with_due (with_services f (on_outcome t s o a f)) (due_on t o f)
acted t dropped a f = with_services f (with_standing f.services (set f.services.standing 2 0))
acted t tick a f =
    let v = f.services in
    with_due (with_services (with_counters f (counted a.number f.counters)) (with_standing v (cond (eqb a.number 12) idle v.standing)))
    (cond (eqb a.number 12) 0 f.due)

-- AT+NFM=a,s: with a = 0 failures and ends become 0
unfoldable pub switched : ℕ → ℕ → Facts → Facts
switched a s f =
    let v = f.services in
    with_services (with_mode f (record { nfm = a; start = s; intervals = f.mode.intervals }))
    (with_backoffs v (cond (eqb a 0) idle v.failures) (cond (eqb a 0) idle v.ends))

-- what an AT line does
unfoldable pub obeyed : Line → Facts → Facts
obeyed (nfm a) f = switched a f.mode.start f
obeyed (nfm_start a s) f = switched a s f
obeyed (intervals l) f = with_mode f (record { nfm = f.mode.nfm; start = f.mode.start; intervals = l })
obeyed query f = f
obeyed bad f = f

unfoldable pub changed : Call → Answer → Facts → Facts
changed (timed t e) a f = acted t e a (moved t f)
changed (typed l) a f = obeyed l f

-- event e, answered n, enters list k: a request that is permitted, or an ordered reset, which is as
-- request 5
unfoldable pub enters : Event → ℕ → Kind → Bool
enters (ask q) n k = eqb n 0 && goes q k
enters (outcome s o) n k = false
enters dropped n k = false
enters tick n k = eqb n 12 && goes 5 k

-- the times that an answered call adds to list k
unfoldable pub adds : Kind → Call → Answer → List ℕ
adds k (timed t e) a = cond (enters e a.number k) (t ∷ []) []
adds k (typed l) a = []

-- what is known after call c was answered a; a refused call changes nothing
unfoldable pub learn : State → Call → Answer → State
learn w c a = record {
  facts = cond (refused a) w.facts (changed c a w.facts);
  lists = λ k. w.lists k ++ adds k c a;
}

-- ---- From a start on

-- what is known after the calls cs, each answered by the rules, and their answers
abbrev pub known : State → List Call → State
known w [] = w
known w (c ∷ cs) = known (learn w c (ruling w c)) cs

abbrev pub answers : State → List Call → List Answer
answers w [] = []
answers w (c ∷ cs) = ruling w c ∷ answers (learn w c (ruling w c)) cs

-- ---- What a buffer holds of it: the newest 255 of each list

unfoldable pub newest : List ℕ → List ℕ
newest l = drop (length l - 255) l

unfoldable pub short : State → State
short w = record { facts = w.facts; lists = λ k. newest (w.lists k) }

-- what a buffer does
unfoldable pub step : State → Call → State
step v c = short (learn v c (ruling v c))

abbrev pub held : State → List Call → State
held v [] = v
held v (c ∷ cs) = held (step v c) cs

abbrev pub held_answers : State → List Call → List Answer
held_answers v [] = []
held_answers v (c ∷ cs) = ruling v c ∷ held_answers (step v c) cs
