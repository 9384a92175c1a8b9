-- Demand 3 straight over the record, in document 01's words: which calls are accepted, which limits
-- there are on a request, when a permit would be one too many, and when each number is given.
-- Nothing here goes by the rules' tests, by their table of limits or by their answers. Assumes
-- nothing.
use Rattle.std.specs.Prelude.{ℕ, ◌+◌, ◌-◌, ◌≤◌, ◌<◌, ◌≡◌, true, false, List, [], ◌∷◌, ◌++◌, ◌⊎◌, ◌≢◌}
use Rattle.rules.specs.declared.Answer.{Answer}
use Rattle.rules.specs.Calls.{Opening, C_R_1, Outcome, Event, ask, outcome, granted, silent, rejected, dropped, tick, Line, nfm, nfm_start, intervals, query, bad, Call, timed, typed, Entry, entry, answer}
use Rattle.rules.specs.Causes.{action, both}
use Rattle.rules.specs.Tables.{highest_time, in_hour, free_in, Kind, attach, activation, pdp, sms, reset, goes, among, limiting, rank, one_more, wait_for, permanent, delay_for, scheduled}
use Rattle.rules.specs.State.{State}
use Rattle.rules.specs.Record.{last_time, nfm_now, intervals_now, permits, to_back_off, failures, back_off_end, standing, mood, due_now, leaked, counter}

-- ---- What is in range, and well-formed

-- "Services 0 (MM causes), 1 (GMM)", 2 (SM) "and 3 (RP, CP)": the columns of a service
pub data Has : (s column : ℕ) → Type 0 where
  MM : Has 0 0
  GMM : Has 1 1
  SM : Has 2 2
  RP : Has 3 3
  CP : Has 3 4

-- 2: "service, request, cause, flag .. out of range", "an unknown column or one that doesn't belong
-- to the service"
abbrev pub InRange : Event → Type 0
InRange (ask q) = q ≤ 5
InRange (outcome s granted) = s ≤ 3
InRange (outcome s silent) = s ≤ 3
InRange (outcome s (rejected cause second column)) = Has s column × ((cause ≤ 255) × (second ≤ 1))
InRange dropped = Unit {0}
InRange tick = Unit {0}

-- 5: "AT line not as above": flags are 0 or 1, intervals keep the range and order of places 10-19
abbrev pub AsAbove : Line → Type 0
AsAbove (nfm a) = a ≤ 1
AsAbove (nfm_start a s) = (a ≤ 1) × (s ≤ 1)
AsAbove (intervals l) = scheduled l ≡ true
AsAbove query = Unit {0}
AsAbove bad = ⊥

-- "The answer is `OK` CR LF, after `+NFM: a,s` CR LF for the read"
abbrev pub written : Line → ℕ
written (nfm a) = 4
written (nfm_start a s) = 4
written (intervals l) = 4
written query = 15
written bad = 0

-- ---- Whom a back-off on outcome o of service s reaches: that service, and on a row of "GSM and
-- GPRS" both registrations

pub data Reached (s : ℕ) : Outcome → ℕ → Type 0 where
  itself : {o : Outcome} → Reached s o s
  registration : {cause second column u : ℕ} → both column cause ≡ true → u ≤ 1 → Reached s (rejected cause second column) u

-- ---- What goes to the network: call c, answered with number n, sends request q at t. That is the
-- request's permit, or a reset that the gate orders, which is as request 5

pub data Sends (t : ℕ) : (c : Call) → (n q : ℕ) → Type 0 where
  by_permit : {q : ℕ} → Sends t (timed t (ask q)) 0 q
  by_order : Sends t (timed t tick) 12 5

-- ---- After the record `past`, from the start g on

module _ (g : State) (past : List Entry) where
  -- what opening settled
  abbrev pub opening : Opening
  opening = g.facts.opening

  -- ---- "A timed call that passes checks 1 to 4 is accepted"; the first check is of the buffer

  -- 3: "time below the last or above 4,000,000,000"
  pub record InTime (t : ℕ) : Type 0 where
    pub not_below : last_time g past ≤ t
    pub not_above : t ≤ highest_time

  -- 4: "Requests 0-3 need standing 0", "Request 4 needs service 2 up", "Request 5 fits any
  -- standing"; "Granted, rejected and silent need standing 1", "Dropped needs service 2 up"
  abbrev pub Fits : Event → Type 0
  Fits (ask q) = (q ≤ 3 → standing g q past ≡ 0) × (q ≡ 4 → standing g 2 past ≡ 2)
  Fits (outcome s o) = standing g s past ≡ 1
  Fits dropped = standing g 2 past ≡ 2
  Fits tick = Unit {0}

  -- event e at t
  pub record Accepted (t : ℕ) (e : Event) : Type 0 where
    pub is_in_range : InRange e
    pub in_time : InTime t
    pub fits : Fits e

  -- ---- The limits

  -- request q is limited to L permits of list k in the hour, by the rule of number n. "N1 and F1-F4
  -- apply while RPM is 1; A1 and S1 always"
  pub data Limited (q : ℕ) : (n L : ℕ) → Kind → Type 0 where
    -- "N1: reset list, for request 5"
    N1 : opening.rpm ≡ 1 → q ≡ 5 → Limited q 11 opening.N1 reset
    -- "F1, F2, F3: activation list, for request 2, only the one matching mood 1, 2, 3"
    F1 : opening.rpm ≡ 1 → q ≡ 2 → mood g past ≡ 1 → Limited q 13 opening.F1 activation
    F2 : opening.rpm ≡ 1 → q ≡ 2 → mood g past ≡ 2 → Limited q 14 opening.F2 activation
    F3 : opening.rpm ≡ 1 → q ≡ 2 → mood g past ≡ 3 → Limited q 15 opening.F3 activation
    -- "F4: PDP list, for requests 2 and 4"
    F4 : opening.rpm ≡ 1 → (q ≡ 2) ⊎ (q ≡ 4) → Limited q 16 opening.F4 pdp
    -- "A1: attach list, for 0 and 1. S1: SMS list, for 3"
    A1 : (q ≡ 0) ⊎ (q ≡ 1) → Limited q 17 opening.A1 attach
    S1 : q ≡ 3 → Limited q 18 opening.S1 sms

  -- a permit at t would be one too many: "zero disables the limit", and with the permit more than L
  -- of list k are in the hour of t
  pub record Over (t L : ℕ) (k : Kind) : Type 0 where
    pub above : 0 < L
    pub over : L < in_hour t (permits g k past ++ (t ∷ []))

  -- m is "the seconds until that rule by itself would permit": with nothing permitted in between, a
  -- permit is one too many at each second before t + m, and at none from then on
  pub record Until (t L : ℕ) (k : Kind) (m : ℕ) : Type 0 where
    pub before : (u : ℕ) → t ≤ u → u < t + m → Over u L k
    pub then : (u : ℕ) → t + m ≤ u → Over u L k → ⊥

  -- no limit on request q would be broken by its permit at t
  abbrev pub WithinLimits : ℕ → ℕ → Type 0
  WithinLimits t q = (n L : ℕ) (k : Kind) → Limited q n L k → Over t L k → ⊥

  -- ---- Back-offs

  -- no back-off holds request q at t: "It runs while t < end", "requests 0-3"
  abbrev pub Free : ℕ → ℕ → Type 0
  Free t q = q ≤ 3 → back_off_end g q past ≤ t

  -- the wait where service s fails once more: "failures rise by one, to 255 at most"
  abbrev pub next_wait : ℕ → ℕ
  next_wait s = wait_for opening.imsi (intervals_now g past) (one_more (failures g s past))

  -- call c is an accepted outcome that backs off: silence, or a rejection whose cause asks for it,
  -- while NFM is 1
  pub data BacksOff : Call → Type 0 where
    backs_off : {t s : ℕ} {o : Outcome} → Accepted t (outcome s o) → to_back_off o ≡ true → nfm_now g past ≡ 1
        → BacksOff (timed t (outcome s o))

  -- ---- The timed reset

  -- T1 runs from call c: "RPM shall wait for time T1 and reset [..] when the following 'permanent'
  -- [..] reject causes are received", unless T1 is 0
  pub data RunsT1 : Call → Type 0 where
    runs : {t s cause second column : ℕ} → permanent column cause ≡ true → 0 < opening.T1 → opening.rpm ≡ 1
        → RunsT1 (timed t (outcome s (rejected cause second column)))

  -- a reset may be ordered at t: "not before the due time", "N1, if it applies, is not full",
  -- "never while RPM is 0"; a due time of 0 is none
  pub record Due (t : ℕ) : Type 0 where
    pub set : due_now g past ≢ 0
    pub not_before : due_now g past ≤ t
    pub on : opening.rpm ≡ 1
    pub not_full : Over t opening.N1 reset → ⊥

  -- "Only a clock call orders it"
  pub data Orders : Call → Type 0 where
    orders : {t : ℕ} → Accepted t tick → Due t → Orders (timed t tick)

  -- ---- "Numbers given back": call c is given an answer

  pub data Given : Call → Answer → Type 0 where
    -- 0: "done or permitted", "AT or counter bytes written, else 0"
    permitted : {t q : ℕ} → Accepted t (ask q) → Free t q → WithinLimits t q → Given (timed t (ask q)) (answer 0 0)
    on_grant : {t s : ℕ} → Accepted t (outcome s granted) → Given (timed t (outcome s granted)) (answer 0 0)
    on_drop : {t : ℕ} → Accepted t dropped → Given (timed t dropped) (answer 0 0)
    on_tick : {t : ℕ} → Accepted t tick → (Due t → ⊥) → Given (timed t tick) (answer 0 0)
    on_line : {l : Line} → AsAbove l → Given (typed l) (answer 0 (written l))
    -- 2, 3, 4: "Checks run in the order 1, 2, 3, 4, or 1, 5 for an AT line"
    out_of_range : {t : ℕ} {e : Event} → (InRange e → ⊥) → Given (timed t e) (answer 2 0)
    out_of_time : {t : ℕ} {e : Event} → InRange e → (InTime t → ⊥) → Given (timed t e) (answer 3 0)
    wrong_standing : {t : ℕ} {e : Event} → InRange e → InTime t → (Fits e → ⊥) → Given (timed t e) (answer 4 0)
    -- 5
    not_as_above : {l : Line} → (AsAbove l → ⊥) → Given (typed l) (answer 5 0)
    -- 10: "back-off runs, requests 0-3", "seconds left"
    held : {t q : ℕ} → Accepted t (ask q) → q ≤ 3 → t < back_off_end g q past → Given (timed t (ask q)) (answer 10 (back_off_end g q past - t))
    -- "Then 10, and of the limits that apply: 11, 13, 14, 15, 16, 17, 18; the first alone acts"
    -- with "the permit time L places from the newest .. plus 3,600, less now", which are the
    -- seconds until it would permit
    blocked : {t q n L : ℕ} {k : Kind} → Accepted t (ask q) → Free t q → Limited q n L k → Over t L k
        → ((n' L' : ℕ) (k' : Kind) → rank n' < rank n → Limited q n' L' k' → Over t L' k' → ⊥)
        → Until t L k (free_in t L (permits g k past)) → Given (timed t (ask q)) (answer n (free_in t L (permits g k past)))
    -- 12: "answers a clock call that orders a reset, with 0"
    ordered : {t : ℕ} → Accepted t tick → Due t → Given (timed t tick) (answer 12 0)
    -- 20: "backed off", "the wait"; "With NFM 0 .. the answer is 23 in place of 20"
    backed_off : {t s : ℕ} {o : Outcome} → Accepted t (outcome s o) → to_back_off o ≡ true → nfm_now g past ≡ 1
        → Given (timed t (outcome s o)) (answer 20 (next_wait s))
    in_its_place : {t s : ℕ} {o : Outcome} → Accepted t (outcome s o) → to_back_off o ≡ true → nfm_now g past ≢ 1
        → Given (timed t (outcome s o)) (answer 23 0)
    -- 21, 22, 23: "re-attach, other network, as 3GPP", and 24 to 28, by the rows of causes
    other_action : {t s cause second column : ℕ} → Accepted t (outcome s (rejected cause second column)) → to_back_off (rejected cause second column) ≡ false
        → Given (timed t (outcome s (rejected cause second column))) (answer (action column cause second) 0)

  -- ---- The sentences of demand 3; `next` is how the next call is answered

  -- the rule of number n would be broken by a permit of request q at t
  pub data Breaks (t q : ℕ) : ℕ → Type 0 where
    back_off : q ≤ 3 → t < back_off_end g q past → Breaks t q 10
    limit : {n L : ℕ} {k : Kind} → Limited q n L k → Over t L k → Breaks t q n

  pub record Direct (next : Call → Answer) : Type 0 where
    -- each number is given exactly when its line says
    pub given : (c : Call) → Given c (next c)
    -- "no request is permitted in its service's running back-off"
    pub no_permit_in_back_off : (t q : ℕ) → (next (timed t (ask q))).number ≡ 0 → Free t q
    -- "resets are not held by one"
    pub resets_not_held : (t : ℕ) → (next (timed t (ask 5))).number ≢ 10
    -- "A permit at t is added to: attach (0, 1), activation (2), PDP (2, 4), SMS (3), reset (5)",
    -- and a reset that is ordered "enters the reset list"
    pub listed_then : (t : ℕ) (c : Call) (q : ℕ) → Sends t c (next c).number q → (k : Kind) → goes q k ≡ true
        → permits g k (entry c (next c) ∷ past) ≡ permits g k past ++ (t ∷ [])
    -- "each permit has at most L on its list in the 3,600 seconds that end with it", itself
    -- counted, and so does each reset that is ordered
    pub at_most : (t : ℕ) (c : Call) (q : ℕ) → Sends t c (next c).number q → (n L : ℕ) (k : Kind) → Limited q n L k → 0 < L
        → in_hour t (permits g k (entry c (next c) ∷ past)) ≤ L
    -- "a request that passes the checks is blocked only by a rule that its permit would break"
    pub blocked_by_a_rule : (t q : ℕ) → Accepted t (ask q) → (next (timed t (ask q))).number ≢ 0
        → Breaks t q (next (timed t (ask q))).number
    -- so where its permit would break none, it is permitted
    pub else_permitted : (t q : ℕ) → Accepted t (ask q) → ((n : ℕ) → Breaks t q n → ⊥) → next (timed t (ask q)) ≡ answer 0 0
    -- 11 and 13 to 18 carry from a second to an hour
    pub an_hour_at_most : (t q : ℕ) → among (next (timed t (ask q))).number limiting ≡ true
        → (1 ≤ (next (timed t (ask q))).second) × ((next (timed t (ask q))).second ≤ 3600)
    -- a back-off begins with what happened, and 20 is given for nothing else
    pub backs_off_then : (t s : ℕ) (o : Outcome) → BacksOff (timed t (outcome s o)) → next (timed t (outcome s o)) ≡ answer 20 (next_wait s)
    pub and_only_then : (c : Call) → (next c).number ≡ 20 → BacksOff c
    -- it holds each service that it reaches for that service's own wait, and no other
    pub each_for_its_wait : (t s : ℕ) (o : Outcome) → BacksOff (timed t (outcome s o)) → (u : ℕ) → Reached s o u
        → back_off_end g u (entry (timed t (outcome s o)) (next (timed t (outcome s o))) ∷ past) ≡ t + next_wait u
    pub and_no_other : (t s : ℕ) (o : Outcome) → BacksOff (timed t (outcome s o)) → (u : ℕ) → (Reached s o u → ⊥)
        → back_off_end g u (entry (timed t (outcome s o)) (next (timed t (outcome s o))) ∷ past) ≡ back_off_end g u past
    -- a reset is ordered by the first clock call that may, and by nothing else
    pub orders_then : (c : Call) → Orders c → next c ≡ answer 12 0
    pub orders_only_then : (c : Call) → (next c).number ≡ 12 → Orders c
    -- it "adds one to C-R-1, at most 255", once what is due since the last time has leaked
    pub counted_then : (t : ℕ) → Orders (timed t tick)
        → counter g C_R_1 (entry (timed t tick) (next (timed t tick)) ∷ past)
        ≡ one_more (leaked opening.opened opening.LR2 (last_time g past) (t - last_time g past) (counter g C_R_1 past))
    -- a reset, asked for or ordered, "makes all services idle [..] and ends the due time"
    pub all_idle_then : (t : ℕ) (c : Call) → Sends t c (next c).number 5 → (s : ℕ) → standing g s (entry c (next c) ∷ past) ≡ 0
    pub due_no_more : (t : ℕ) (c : Call) → Sends t c (next c).number 5 → due_now g (entry c (next c) ∷ past) ≡ 0
    -- "one already set stays" through everything else
    pub else_stays : (c : Call) → ((t : ℕ) → Sends t c (next c).number 5 → ⊥) → due_now g past ≢ 0
        → due_now g (entry c (next c) ∷ past) ≡ due_now g past
    -- where none is set, a rejection from which T1 runs sets it, and nothing else does
    pub set_then : (t : ℕ) (e : Event) → RunsT1 (timed t e) → due_now g past ≡ 0
        → due_now g (entry (timed t e) (next (timed t e)) ∷ past) ≡ t + delay_for opening.imsi opening.T1
    pub set_only_then : (c : Call) → (RunsT1 c → ⊥) → due_now g past ≡ 0 → due_now g (entry c (next c) ∷ past) ≡ 0
