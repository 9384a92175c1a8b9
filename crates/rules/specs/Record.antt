-- What the record tells. The record is the list of the accepted calls since its start, each with
-- its answer, the newest first; each thing that it tells is read straight off it, by itself, and
-- before any call off the start: a new buffer, or what a good one holds. Assumes nothing.
use Rattle.std.specs.Prelude.{ℕ, zero, suc, ◌+◌, ◌-◌, ◌*◌, ◌%◌, min, Bool, true, false, cond, ◌&&◌, List, [], ◌∷◌, ◌++◌, get_or, ltb, leb, eqb}
use Rattle.rules.specs.Calls.{Opening, Counter, Outcome, ask, outcome, granted, silent, rejected, dropped, tick, nfm, nfm_start, intervals, query, bad, Call, timed, typed, Entry}
use Rattle.rules.specs.State.{State}
use Rattle.rules.specs.Causes.{action, both, reaches}
use Rattle.rules.specs.Tables.{Kind, goes, mood_on, one_more, wait_for, permanent, delay_for, rate_of, raises, of_six}

-- ---- The last time: that of the newest timed call, and before any the start's

-- the time of a timed call; an AT line leaves the time as it was
abbrev pub time_of : Call → ℕ → ℕ
time_of (timed t e) before = t
time_of (typed l) before = before

unfoldable pub last_time : State → List Entry → ℕ
last_time g [] = g.facts.last
last_time g (x ∷ past) = time_of x.call (last_time g past)

-- ---- NFM, Start Timer and intervals: as the newest AT line that names them has them, and before
-- any as the start has them

abbrev pub nfm_after : Call → ℕ → ℕ
nfm_after (timed t e) before = before
nfm_after (typed (nfm a)) before = a
nfm_after (typed (nfm_start a s)) before = a
nfm_after (typed (intervals l)) before = before
nfm_after (typed query) before = before
nfm_after (typed bad) before = before

unfoldable pub nfm_now : State → List Entry → ℕ
nfm_now g [] = g.facts.mode.nfm
nfm_now g (x ∷ past) = nfm_after x.call (nfm_now g past)

-- without s, Start Timer stays
abbrev pub start_after : Call → ℕ → ℕ
start_after (timed t e) before = before
start_after (typed (nfm a)) before = before
start_after (typed (nfm_start a s)) before = s
start_after (typed (intervals l)) before = before
start_after (typed query) before = before
start_after (typed bad) before = before

unfoldable pub start_now : State → List Entry → ℕ
start_now g [] = g.facts.mode.start
start_now g (x ∷ past) = start_after x.call (start_now g past)

abbrev pub intervals_after : Call → List ℕ → List ℕ
intervals_after (timed t e) before = before
intervals_after (typed (nfm a)) before = before
intervals_after (typed (nfm_start a s)) before = before
intervals_after (typed (intervals l)) before = l
intervals_after (typed query) before = before
intervals_after (typed bad) before = before

unfoldable pub intervals_now : State → List Entry → List ℕ
intervals_now g [] = g.facts.mode.intervals
intervals_now g (x ∷ past) = intervals_after x.call (intervals_now g past)

-- ---- The permits of list k, oldest first: the start's, and the times of the requests that go
-- there and were answered 0; a clock call that was answered 12 is a reset, as request 5

abbrev pub permit_in : Kind → Call → ℕ → List ℕ
permit_in k (timed t (ask q)) n = cond (eqb n 0 && goes q k) (t ∷ []) []
permit_in k (timed t (outcome s o)) n = []
permit_in k (timed t dropped) n = []
permit_in k (timed t tick) n = cond (eqb n 12 && goes 5 k) (t ∷ []) []
permit_in k (typed l) n = []

unfoldable pub permits : State → Kind → List Entry → List ℕ
permits g k [] = g.lists k
permits g k (x ∷ past) = permits g k past ++ permit_in k x.call x.answer.number

-- ---- Failures in a row and back-off end of service s, by what happened and not by the answers

-- a grant of the service, and AT+NFM=0, set both to 0
abbrev pub clears : ℕ → Call → Bool
clears s (timed t (ask q)) = false
clears s (timed t (outcome u granted)) = eqb u s
clears s (timed t (outcome u silent)) = false
clears s (timed t (outcome u (rejected cause second column))) = false
clears s (timed t dropped) = false
clears s (timed t tick) = false
clears s (typed (nfm a)) = eqb a 0
clears s (typed (nfm_start a b)) = eqb a 0
clears s (typed (intervals l)) = false
clears s (typed query) = false
clears s (typed bad) = false

-- what asks to back off: silence, and a rejection whose row does
abbrev pub to_back_off : Outcome → Bool
to_back_off granted = false
to_back_off silent = true
to_back_off (rejected cause second column) = eqb (action column cause second) 20

-- and on whose behalf: for both registrations, or for its own service alone
abbrev pub for_both : Outcome → Bool
for_both granted = false
for_both silent = false
for_both (rejected cause second column) = both column cause

-- an accepted call makes service s back off, where NFM was n before it: with NFM 0 nothing is timed
-- or counted
abbrev pub backs_off : ℕ → (n : ℕ) → Call → Bool
backs_off s n (timed t (ask q)) = false
backs_off s n (timed t (outcome u o)) = (to_back_off o && eqb n 1) && reaches (for_both o) u s
backs_off s n (timed t dropped) = false
backs_off s n (timed t tick) = false
backs_off s n (typed l) = false

-- how often it has backed off since it was last cleared, the start's failures among it
unfoldable pub in_a_row : State → ℕ → List Entry → ℕ
in_a_row g s [] = get_or g.facts.services.failures s 0
in_a_row g s (x ∷ past) = cond (clears s x.call) 0 (cond (backs_off s (nfm_now g past) x.call) (suc (in_a_row g s past)) (in_a_row g s past))

-- to 255 at most
unfoldable pub failures : State → ℕ → List Entry → ℕ
failures g s past = min (in_a_row g s past) 255

-- the time of its newest back-off plus the wait at so many failures; 0 once it is cleared; before
-- any the start's
unfoldable pub back_off_end : State → ℕ → List Entry → ℕ
back_off_end g s [] = get_or g.facts.services.ends s 0
back_off_end g s (x ∷ past) =
    cond (clears s x.call) 0
    (cond (backs_off s (nfm_now g past) x.call)
    (time_of x.call 0 + wait_for g.facts.opening.imsi (intervals_now g past) (failures g s (x ∷ past)))
    (back_off_end g s past))

-- ---- The standing of service s: 0 idle, 1 asked, 2 up

-- a permit makes its service asked; of request 4, service 2 idle; of request 5, all idle, as an
-- ordered reset does
abbrev pub stands_asked : ℕ → ℕ → ℕ → ℕ
stands_asked s q before = cond (leb q 3) (cond (eqb q s) 1 before) (cond (eqb q 4) (cond (eqb 2 s) 0 before) 0)

abbrev pub stands_after : ℕ → Call → ℕ → ℕ → ℕ
stands_after s (timed t (ask q)) n before = cond (eqb n 0) (stands_asked s q before) before
stands_after s (timed t (outcome u granted)) n before = cond (eqb u s) (cond (eqb u 2) 2 0) before
stands_after s (timed t (outcome u silent)) n before = cond (eqb u s) 0 before
stands_after s (timed t (outcome u (rejected cause second column))) n before = cond (eqb u s) 0 before
stands_after s (timed t dropped) n before = cond (eqb 2 s) 0 before
stands_after s (timed t tick) n before = cond (eqb n 12) 0 before
stands_after s (typed l) n before = before

unfoldable pub standing : State → ℕ → List Entry → ℕ
standing g s [] = get_or g.facts.services.standing s 0
standing g s (x ∷ past) = stands_after s x.call x.answer.number (standing g s past)

-- ---- The PDP mood: 0 clear, 1 ignored, 2 permanent, 3 temporary

abbrev pub mood_after : Call → ℕ → ℕ
mood_after (timed t (ask q)) before = before
mood_after (timed t (outcome s granted)) before = cond (eqb s 2) 0 before
mood_after (timed t (outcome s silent)) before = cond (eqb s 2) 1 before
mood_after (timed t (outcome s (rejected cause second column))) before = cond (eqb s 2) (mood_on cause) before
mood_after (timed t dropped) before = before
mood_after (timed t tick) before = before
mood_after (typed l) before = before

unfoldable pub mood : State → List Entry → ℕ
mood g [] = g.facts.services.mood
mood g (x ∷ past) = mood_after x.call (mood g past)

-- ---- The due time of the timed reset; 0 is none

-- an outcome that T1 waits from: a permanent rejection, while T1 is above 0 and RPM is 1
abbrev pub starts_t1 : Opening → Outcome → Bool
starts_t1 o granted = false
starts_t1 o silent = false
starts_t1 o (rejected cause second column) = permanent column cause && (ltb 0 o.T1 && eqb o.rpm 1)

-- one that is set stays, until the module is reset: by a permitted request 5, or as it is ordered
abbrev pub due_after : Opening → Call → ℕ → ℕ → ℕ
due_after o (timed t (ask q)) n before = cond (eqb n 0 && eqb q 5) 0 before
due_after o (timed t (outcome s x)) n before = cond (starts_t1 o x && eqb before 0) (t + delay_for o.imsi o.T1) before
due_after o (timed t dropped) n before = before
due_after o (timed t tick) n before = cond (eqb n 12) 0 before
due_after o (typed l) n before = before

unfoldable pub due_now : State → List Entry → ℕ
due_now g [] = g.facts.due
due_now g (x ∷ past) = due_after g.facts.opening x.call x.answer.number (due_now g past)

-- ---- The card's counters

-- p is a leak point: the opening time plus a positive multiple of rate x 3,600 s; a rate of zero
-- has none
unfoldable pub leak_point : ℕ → ℕ → ℕ → Bool
leak_point opened rate p = ltb 0 rate && (ltb opened p && eqb ((p - opened) % (rate * 3600)) 0)

-- what is left of a counter n seconds after the old time: each leak point on the way takes one,
-- never below 0
unfoldable pub leaked : (opened rate old n counter : ℕ) → ℕ
leaked opened rate old zero counter = counter
leaked opened rate old (suc n) counter =
    let left = leaked opened rate old n counter in
    cond (leak_point opened rate (old + suc n)) (left - 1) left

-- what counter k counts: a request that its limit blocked, and C-R-1 a reset that was ordered
abbrev pub counts_on : Counter → Call → ℕ → Bool
counts_on k (timed t (ask q)) n = raises k n
counts_on k (timed t (outcome s o)) n = false
counts_on k (timed t dropped) n = false
counts_on k (timed t tick) n = raises k n
counts_on k (typed l) n = false

-- counter k: the start's; a call leaks from the old time to its own, and then its own block or
-- reset adds one, to 255 at most
unfoldable pub counter : State → Counter → List Entry → ℕ
counter g k [] = of_six g.facts.counters k
counter g k (x ∷ past) =
    let old = last_time g past in
    let left = leaked g.facts.opening.opened (rate_of g.facts.opening k) old (time_of x.call old - old) (counter g k past) in
    cond (counts_on k x.call x.answer.number) (one_more left) left
