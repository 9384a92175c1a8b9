-- Which buffers are good: the length, the version, and a test for each other line of document 01's
-- table, in its order. Assumes nothing.
use Rattle.std.specs.Prelude.{ℕ, ◌+◌, ◌*◌, ◌^◌, ◌≤◌, ◌<◌, ◌≡◌, Bool, true, ◌&&◌, ◌||◌, not, List, [], ◌∷◌, map, leb, ltb, eqb, length, get_or, take, drop}
use Rattle.rules.specs.Calls.{Opening}
use Rattle.rules.specs.Tables.{highest_time, ascending}
use Rattle.rules.specs.State.{State, Services}
use Rattle.buffer.specs.Places.{SIZE, CURRENT, LETTERS, VERSION, REMAINDER, COUNT, INTERVALS, LENGTHS, LISTS}
use Rattle.buffer.specs.Segments.{part}
use Rattle.buffer.specs.Layout.{letters, rows, row, facts_of}

-- every test passes: of a, b and c, `(a && b) && c`, which is what the code's `a & b & c` is
abbrev pub from : Bool → List Bool → Bool
from a [] = a
from a (t ∷ ts) = from (a && t) ts

abbrev pub every : List Bool → Bool
every ts = from true ts

-- every number is at most hi; every number is 0
unfoldable pub at_most : ℕ → List ℕ → Bool
at_most hi [] = true
at_most hi (x ∷ xs) = leb x hi && at_most hi xs

abbrev pub zeros : List ℕ → Bool
zeros xs = at_most 0 xs

abbrev pub bytes : List ℕ → Bool
bytes xs = at_most 255 xs

-- ---- The lines that speak of values

-- 2, 3: opening time; last time, not below it; at most 4,000,000,000
unfoldable pub times_good : ℕ → ℕ → Bool
times_good opened last = leb opened last && leb last highest_time

-- 4, 5: up to 999,999,999,999,999
unfoldable pub imsi_good : ℕ → Bool
imsi_good n = leb n 999999999999999

-- 6, 7, 8: 0 or 1
unfoldable pub flags_good : ℕ → ℕ → ℕ → Bool
flags_good nfm start rpm = leb nfm 1 && leb start 1 && leb rpm 1

-- 9: 1 to 10
unfoldable pub count_good : ℕ → Bool
count_good n = leb 1 n && leb n 10

-- 10-19: 1 to 65,535 s, none below the one before
abbrev pub intervals_good : List ℕ → Bool
intervals_good l = ascending 1 65535 l

-- 20-25, 26-27, 28-30: at most 255
abbrev pub parameters : Opening → List ℕ
parameters o = o.N1 ∷ o.T1 ∷ o.F1 ∷ o.F2 ∷ o.F3 ∷ o.F4 ∷ []

abbrev pub house : Opening → List ℕ
house o = o.A1 ∷ o.S1 ∷ []

abbrev pub rates : Opening → List ℕ
rates o = o.LR1 ∷ o.LR2 ∷ o.LR3 ∷ []

-- 35-38: at most 4,000,131,069; all 0 while NFM is 0, and service 2's while it is up
abbrev pub highest_end : ℕ
highest_end = 4000131069

unfoldable pub ends_good : ℕ → Services → Bool
ends_good nfm v =
    at_most highest_end v.ends
    && (eqb nfm 1 || zeros v.ends)
    && (not (eqb (get_or v.standing 2 0) 2) || eqb (get_or v.ends 2 0) 0)

-- 39-42: 0 or 1; service 2 also 2
unfoldable pub standing_good : List ℕ → Bool
standing_good l = leb (get_or l 0 0) 1 && leb (get_or l 1 0) 1 && leb (get_or l 2 0) 2 && leb (get_or l 3 0) 1

-- 43: 0 to 3
unfoldable pub mood_good : ℕ → Bool
mood_good n = leb n 3

-- 55-1329: oldest first, none below the opening time or above the last time
abbrev pub list_good : ℕ → ℕ → List ℕ → Bool
list_good opened last l = ascending opened last l

-- ---- A good buffer

-- what the n numbers that are used leave of a part
abbrev pub unused : ℕ → List ℕ → List ℕ
unused n p = drop n p

-- list k of the five: in order, unused places 0
unfoldable pub row_good : List ℕ → ℕ → Bool
row_good b k =
    list_good (facts_of b).opening.opened (facts_of b).last (row b k) && zeros (unused (get_or b (LENGTHS + k) 0) (part b (LISTS + 255 * k) 255))

-- the lines of the places of the first version, which stand in front in every version
unfoldable pub lines : List ℕ → List Bool
lines b =
    let f = facts_of b in
    let o = f.opening in
    let m = f.mode in
    let v = f.services in
    let n = get_or b COUNT 0 in
    eqb (get_or b LETTERS 0) letters  -- 0
    ∷ times_good o.opened f.last  -- 2, 3
    ∷ (ltb (get_or b REMAINDER 0) (2 ^ 32) && imsi_good o.imsi)  -- 4, 5
    ∷ flags_good m.nfm m.start o.rpm  -- 6, 7, 8
    ∷ count_good n  -- 9
    ∷ (intervals_good m.intervals && zeros (unused n (part b INTERVALS 10)))  -- 10-19
    ∷ bytes (parameters o)  -- 20-25
    ∷ bytes (house o)  -- 26, 27
    ∷ bytes (rates o)  -- 28-30
    ∷ bytes v.failures  -- 31-34
    ∷ ends_good m.nfm v  -- 35-38
    ∷ standing_good v.standing  -- 39-42
    ∷ mood_good v.mood  -- 43
    ∷ bytes f.counters  -- 44-49
    ∷ bytes (part b LENGTHS 5)  -- 50-54
    ∷ every (row_good b 0 ∷ row_good b 1 ∷ row_good b 2 ∷ row_good b 3 ∷ row_good b 4 ∷ [])  -- 55-1329
    ∷ []

-- a good buffer of a version: its length, its version, and every line
abbrev pub good_as : (size version : ℕ) → List ℕ → Bool
good_as n v b = eqb (length b) n && eqb (get_or b VERSION 0) v && every (lines b)

-- and of this one: 1,331 numbers; any due time is good
unfoldable pub good : List ℕ → Bool
good b = good_as SIZE CURRENT b

-- n of the lines, from line i on
abbrev pub some_lines : List ℕ → ℕ → ℕ → Bool
some_lines b i n = every (take n (drop i (lines b)))

-- what a good buffer has besides its values

pub record Shape (b : List ℕ) : Type 0 where
  pub long : length b ≡ SIZE
  pub lettered : get_or b LETTERS 0 ≡ letters
  pub version : get_or b VERSION 0 ≡ CURRENT
  pub low : get_or b REMAINDER 0 < 2 ^ 32
  pub few : get_or b COUNT 0 ≤ 10
  pub spare : zeros (unused (get_or b COUNT 0) (part b INTERVALS 10)) ≡ true
  pub short : (k : ℕ) → k < 5 → get_or b (LENGTHS + k) 0 ≤ 255
  pub clear : (k : ℕ) → k < 5 → zeros (unused (get_or b (LENGTHS + k) 0) (part b (LISTS + 255 * k) 255)) ≡ true

-- ---- A state that a buffer can hold: the same of its values, and each list of numbers as long as
-- its places

unfoldable pub fits : State → List Bool
fits v =
    eqb (length v.facts.services.failures) 4
    ∷ eqb (length v.facts.services.ends) 4
    ∷ eqb (length v.facts.services.standing) 4
    ∷ eqb (length v.facts.counters) 6
    ∷ every (map (λ l. leb (length l) 255) (rows v.lists))
    ∷ []

unfoldable pub values : State → List Bool
values w =
    let f = w.facts in
    let o = f.opening in
    let m = f.mode in
    let v = f.services in
    times_good o.opened f.last
    ∷ imsi_good o.imsi
    ∷ flags_good m.nfm m.start o.rpm
    ∷ count_good (length m.intervals)
    ∷ intervals_good m.intervals
    ∷ bytes (parameters o)
    ∷ bytes (house o)
    ∷ bytes (rates o)
    ∷ bytes v.failures
    ∷ ends_good m.nfm v
    ∷ standing_good v.standing
    ∷ mood_good v.mood
    ∷ bytes f.counters
    ∷ every (map (list_good o.opened f.last) (rows w.lists))
    ∷ []

unfoldable pub valid : State → Bool
valid w = every (fits w) && every (values w)
