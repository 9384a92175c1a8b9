-- Document 01's figures for the classroom, with the waits of request 3 and the seconds of request
-- 4, and neighbours of theirs, so that every answer up to 23 but 1 stands in one: how the buffer is
-- opened, what is called, and what must be seen, over the calls' own definitions on the 1,331
-- places and over the record. Assumes nothing.
use Rattle.std.specs.Prelude.{ℕ, List, [], ◌∷◌, ◌++◌, get_or, replicate}
use Rattle.rules.specs.declared.Answer.{Answer}
use Rattle.rules.specs.Calls.{C_PDP_1, query, bad, Call, timed, typed, answer}
use Rattle.rules.specs.declared.Event.TheVariants.{Ask as ask, Outcome as outcome, Tick as tick}
use Rattle.rules.specs.declared.Outcome.TheVariants.{Granted as granted, Silent as silent, Rejected as rejected}
use Rattle.rules.specs.Record.{counter}
use Rattle.rules.specs.Told.{ruled_all, told}
use Rattle.buffer.specs.Places.{SIZE}
use Rattle.buffer.specs.Layout.{facts_of}
use Rattle.card.specs.Card.{rtc10, written}
use Rattle.clock.specs.Call.{call_answer, call_after}
use Rattle.opening.specs.Open.{Order, given_by, open_after}

-- an opening and the calls after it
pub record Case : Type 0 where
  pub from : Order
  pub calls : List Call

-- the answers, and C-PDP-1 at the end
pub record Seen : Type 0 where
  pub given : List Answer
  pub pdp1 : ℕ

-- ---- On the buffer: 1,331 places of 0 are opened, each call is made, and at the end the counter
-- file is written

abbrev pub answers_on : List ℕ → List Call → List Answer
answers_on b [] = []
answers_on b (c ∷ cs) = call_answer b c ∷ answers_on (call_after b c) cs

abbrev pub left_by : List ℕ → List Call → List ℕ
left_by b [] = b
left_by b (c ∷ cs) = left_by (call_after b c) cs

abbrev pub empty : List ℕ
empty = replicate SIZE 0

abbrev pub seen_on_buffer : Case → Seen
seen_on_buffer c =
    let b = open_after empty c.from in
    record { given = answers_on b c.calls; pdp1 = get_or (written (facts_of (left_by b c.calls)).counters) 2 0 }

-- ---- Over the record

abbrev pub seen_over_record : Case → Seen
seen_over_record c = let g = given_by c.from in record { given = ruled_all g [] c.calls; pdp1 = counter g C_PDP_1 (told g c.calls) }

-- ---- The cases: IMSI 1010123456789, intervals 60, 120, 240, RPM 1, unnamed limits 0

-- a card file: the bytes that are used, then 0
abbrev padded : ℕ → List ℕ → List ℕ
padded n l = l ++ replicate n 0

-- the parameters are N1, T1, F1, F2, F3, F4
abbrev from : (opened nfm : ℕ) → (parameters : List ℕ) → (A1 S1 LR3 pdp1 : ℕ) → Order
from t nfm l a1 s1 lr3 pdp1 = record {
  time = t;
  imsi = 1010123456789;
  intervals = 60 ∷ 120 ∷ 240 ∷ [];
  nfm = nfm;
  rpm = 1;
  A1 = a1;
  S1 = s1;
  parameters = padded 26 l;
  rates = padded 3 (0 ∷ 0 ∷ lr3 ∷ []);
  counters = padded 26 (0 ∷ 0 ∷ pdp1 ∷ 0 ∷ 0 ∷ 0 ∷ []);
  own_parameters = rtc10;
  own_rates = replicate 6 0;
}

abbrev none : List ℕ
none = 0 ∷ 0 ∷ 0 ∷ 0 ∷ 0 ∷ 0 ∷ []

abbrev plain : Order
plain = from 0 1 none 0 0 0 0

abbrev leaking : Order
leaking = from 0 1 none 0 0 1 3

abbrev case : Order → List Call → Case
case o cs = record { from = o; calls = cs }

abbrev pub cases : List Case
cases =
    -- C1
    case plain
    (timed 0 (ask 2) ∷ timed 0 (outcome 2 silent) ∷ timed 1000 (ask 2) ∷ timed 1000 (outcome 2 silent) ∷ timed 2000 (ask 2) ∷ timed 2000 (outcome 2 silent) ∷ timed 3000 (ask 2) ∷ timed 3000 (outcome 2 silent) ∷ [])
    -- C2, C3
    ∷ case plain (timed 1000 (ask 2) ∷ timed 1010 (outcome 2 (rejected 26 0 2)) ∷ timed 1112 (ask 2) ∷ timed 1113 (ask 2) ∷ [])
    -- C4, C5
    ∷ case (from 0 1 none 0 2 0 0) (timed 10 (ask 3) ∷ timed 10 (outcome 3 granted) ∷ timed 20 (ask 3) ∷ timed 20 (outcome 3 granted) ∷ timed 3609 (ask 3) ∷ timed 3610 (ask 3) ∷ [])
    -- C6, C7
    ∷ case (from 0 1 (1 ∷ 0 ∷ 0 ∷ 0 ∷ 0 ∷ 0 ∷ []) 0 0 0 0) (timed 100 (ask 5) ∷ timed 3699 (ask 5) ∷ timed 3700 (ask 5) ∷ [])
    -- C8
    ∷ case (from 0 1 (0 ∷ 0 ∷ 0 ∷ 0 ∷ 0 ∷ 2 ∷ []) 0 0 0 0) (timed 0 (ask 2) ∷ timed 1 (outcome 2 granted) ∷ timed 2 (ask 4) ∷ timed 3 (ask 2) ∷ [])
    -- C9
    ∷ case (from 0 0 (0 ∷ 0 ∷ 0 ∷ 1 ∷ 0 ∷ 0 ∷ []) 0 0 0 0) (timed 0 (ask 2) ∷ timed 1 (outcome 2 (rejected 33 0 2)) ∷ timed 2 (ask 2) ∷ [])
    -- C10
    ∷ case leaking (timed 3599 tick ∷ [])
    ∷ case leaking (timed 3599 tick ∷ timed 3600 tick ∷ [])
    ∷ case leaking (timed 3599 tick ∷ timed 3600 tick ∷ timed 10800 tick ∷ [])
    -- the printed trace, opened at 1000 with S1 = 2
    ∷ case (from 1000 1 none 0 2 0 0)
    (timed 1000 (ask 2) ∷ timed 1010 (outcome 2 (rejected 26 0 2)) ∷ timed 1112 (ask 2) ∷ timed 1113 (ask 2) ∷ timed 1114 (outcome 2 granted) ∷ timed 1115 (ask 2) ∷ [])
    -- C9's neighbours: after silence F1, after a temporary cause F3; A1, which the other
    -- registration meets
    ∷ case (from 0 0 (0 ∷ 0 ∷ 1 ∷ 0 ∷ 0 ∷ 0 ∷ []) 0 0 0 0) (timed 0 (ask 2) ∷ timed 1 (outcome 2 silent) ∷ timed 2 (ask 2) ∷ [])
    ∷ case (from 0 0 (0 ∷ 0 ∷ 0 ∷ 0 ∷ 1 ∷ 0 ∷ []) 0 0 0 0) (timed 0 (ask 2) ∷ timed 1 (outcome 2 (rejected 26 0 2)) ∷ timed 2 (ask 2) ∷ [])
    ∷ case (from 0 1 none 1 0 0 0) (timed 0 (ask 0) ∷ timed 1 (outcome 0 granted) ∷ timed 2 (ask 1) ∷ [])
    -- C2's: re-attach; another network, and the same cause without one, the first failure
    ∷ case plain
    (timed 1000 (ask 2) ∷ timed 1010 (outcome 2 (rejected 28 0 2)) ∷ timed 1011 (ask 2) ∷ timed 1012 (outcome 2 (rejected 34 1 2)) ∷ timed 1013 (ask 2) ∷ timed 1014 (outcome 2 (rejected 34 0 2)) ∷ [])
    -- the timed reset, T1 and N1 1: a second early, at the due time, once more; then N1 counts it
    ∷ case (from 0 1 (1 ∷ 1 ∷ 0 ∷ 0 ∷ 0 ∷ 0 ∷ []) 0 0 0 0)
    (timed 0 (ask 0) ∷ timed 1 (outcome 0 (rejected 2 0 0)) ∷ timed 331 tick ∷ timed 332 tick ∷ timed 332 tick ∷ timed 333 (ask 5) ∷ [])
    -- the checks, and the read
    ∷ case plain (timed 5 tick ∷ timed 6 (ask 6) ∷ timed 4 (ask 0) ∷ timed 5 (ask 4) ∷ typed query ∷ typed bad ∷ [])
    ∷ []

abbrev ok : Answer
ok = answer 0 0

abbrev sight : List Answer → ℕ → Seen
sight l n = record { given = l; pdp1 = n }

abbrev pub expected : List Seen
expected =
    sight (ok ∷ answer 20 103 ∷ ok ∷ answer 20 152 ∷ ok ∷ answer 20 273 ∷ ok ∷ answer 20 438 ∷ []) 0
    ∷ sight (ok ∷ answer 20 103 ∷ answer 10 1 ∷ ok ∷ []) 0
    ∷ sight (ok ∷ ok ∷ ok ∷ ok ∷ answer 18 1 ∷ ok ∷ []) 0
    ∷ sight (ok ∷ answer 11 1 ∷ ok ∷ []) 0
    ∷ sight (ok ∷ ok ∷ ok ∷ answer 16 3597 ∷ []) 0
    ∷ sight (ok ∷ answer 23 0 ∷ answer 14 3598 ∷ []) 0
    ∷ sight (ok ∷ []) 3
    ∷ sight (ok ∷ ok ∷ []) 2
    ∷ sight (ok ∷ ok ∷ ok ∷ []) 0
    ∷ sight (ok ∷ answer 20 103 ∷ answer 10 1 ∷ ok ∷ ok ∷ answer 4 0 ∷ []) 0
    ∷ sight (ok ∷ answer 23 0 ∷ answer 13 3598 ∷ []) 1
    ∷ sight (ok ∷ answer 23 0 ∷ answer 15 3598 ∷ []) 0
    ∷ sight (ok ∷ ok ∷ answer 17 3598 ∷ []) 0
    ∷ sight (ok ∷ answer 21 0 ∷ ok ∷ answer 22 0 ∷ ok ∷ answer 20 103 ∷ []) 0
    ∷ sight (ok ∷ answer 20 103 ∷ ok ∷ answer 12 0 ∷ ok ∷ answer 11 3599 ∷ []) 0
    ∷ sight (ok ∷ answer 2 0 ∷ answer 3 0 ∷ answer 4 0 ∷ answer 0 15 ∷ answer 5 0 ∷ []) 0
    ∷ []
