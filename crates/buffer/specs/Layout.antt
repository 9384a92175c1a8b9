-- Document 01's table, and the due time at its end: the 1,331 numbers of a state, and the state
-- that 1,331 numbers hold. Assumes nothing.
use Rattle.std.specs.Prelude.{ℕ, ◌+◌, ◌*◌, ◌/◌, ◌%◌, ◌^◌, List, [], ◌∷◌, map, length, get_or}
use Rattle.rules.specs.Tables.{Kind, attach, activation, pdp, sms, reset}
use Rattle.rules.specs.State.{State, Facts}
use Rattle.buffer.specs.Segments.{concat, part, pad}
use Rattle.buffer.specs.Places.{CURRENT, OPENED, LAST, QUOTIENT, REMAINDER, NFM, START, RPM, COUNT, INTERVALS, PARAMETERS, HOUSE, RATES, FAILURES, ENDS, STANDING, MOOD, COUNTERS, LENGTHS, LISTS, DUE}

-- letters WRP
abbrev pub letters : ℕ
letters = 0x00575250

-- the five lists, in the table's order
abbrev pub rows : (Kind → List ℕ) → List (List ℕ)
rows l = l attach ∷ l activation ∷ l pdp ∷ l sms ∷ l reset ∷ []

abbrev pub place : Kind → ℕ
place attach = 0
place activation = 1
place pdp = 2
place sms = 3
place reset = 4

-- ---- The table: a segment for each of its lines, and the widths of the segments

unfoldable pub segments : Facts → List (List ℕ) → List (List ℕ)
segments f rs =
    let o = f.opening in
    let m = f.mode in
    let v = f.services in
    (letters ∷ [])  -- 0
    ∷ (CURRENT ∷ [])  -- 1
    ∷ (o.opened ∷ f.last ∷ [])  -- 2, 3
    ∷ (o.imsi / 2 ^ 32 ∷ o.imsi % 2 ^ 32 ∷ [])  -- 4, 5
    ∷ (m.nfm ∷ m.start ∷ o.rpm ∷ [])  -- 6, 7, 8
    ∷ (length m.intervals ∷ [])  -- 9
    ∷ pad 10 m.intervals  -- 10-19
    ∷ (o.N1 ∷ o.T1 ∷ o.F1 ∷ o.F2 ∷ o.F3 ∷ o.F4 ∷ [])  -- 20-25
    ∷ (o.A1 ∷ o.S1 ∷ [])  -- 26, 27
    ∷ (o.LR1 ∷ o.LR2 ∷ o.LR3 ∷ [])  -- 28-30
    ∷ v.failures  -- 31-34
    ∷ v.ends  -- 35-38
    ∷ v.standing  -- 39-42
    ∷ (v.mood ∷ [])  -- 43
    ∷ f.counters  -- 44-49
    ∷ map length rs  -- 50-54
    ∷ concat (map (pad 255) rs)  -- 55-1329
    ∷ (f.due ∷ [])  -- 1330
    ∷ []

abbrev pub widths : List ℕ
widths = 1 ∷ 1 ∷ 2 ∷ 2 ∷ 3 ∷ 1 ∷ 10 ∷ 6 ∷ 2 ∷ 3 ∷ 4 ∷ 4 ∷ 4 ∷ 1 ∷ 6 ∷ 5 ∷ 1275 ∷ 1 ∷ []

-- facts and five lists, laid out
unfoldable pub spread : Facts → List (List ℕ) → List ℕ
spread f rs = concat (segments f rs)

abbrev pub lay : State → List ℕ
lay v = spread v.facts (rows v.lists)

-- ---- The table read back

-- list k of the five
abbrev pub row : List ℕ → ℕ → List ℕ
row b k = part b (LISTS + 255 * k) (get_or b (LENGTHS + k) 0)

unfoldable pub facts_of : List ℕ → Facts
facts_of b = record {
  opening = record {
    opened = get_or b OPENED 0;
    imsi = get_or b QUOTIENT 0 * 2 ^ 32 + get_or b REMAINDER 0;
    rpm = get_or b RPM 0;
    N1 = get_or b PARAMETERS 0;
    T1 = get_or b (PARAMETERS + 1) 0;
    F1 = get_or b (PARAMETERS + 2) 0;
    F2 = get_or b (PARAMETERS + 3) 0;
    F3 = get_or b (PARAMETERS + 4) 0;
    F4 = get_or b (PARAMETERS + 5) 0;
    A1 = get_or b HOUSE 0;
    S1 = get_or b (HOUSE + 1) 0;
    LR1 = get_or b RATES 0;
    LR2 = get_or b (RATES + 1) 0;
    LR3 = get_or b (RATES + 2) 0;
  };
  mode = record { nfm = get_or b NFM 0; start = get_or b START 0; intervals = part b INTERVALS (get_or b COUNT 0) };
  last = get_or b LAST 0;
  counters = part b COUNTERS 6;
  services = record { failures = part b FAILURES 4; ends = part b ENDS 4; standing = part b STANDING 4; mood = get_or b MOOD 0 };
  due = get_or b DUE 0;
}

abbrev pub view : List ℕ → State
view b = record { facts = facts_of b; lists = λ k. row b (place k) }
