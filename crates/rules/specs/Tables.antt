-- Document 01's tables and formulas that hang on nothing but their arguments. Assumes nothing.
use Rattle.std.specs.Prelude.{ℕ, suc, ◌+◌, ◌-◌, ◌*◌, ◌%◌, min, Bool, true, false, cond, ◌&&◌, ◌||◌, List, [], ◌∷◌, length, get_or, ltb, leb, eqb}
use Rattle.mixing.specs.Mixing.{drawn}
use Rattle.rules.specs.Calls.{Opening, Counter, C_BR_1, C_R_1, C_PDP_1, C_PDP_2, C_PDP_3, C_PDP_4}

abbrev pub highest_time : ℕ
highest_time = 4000000000

-- ---- The hour, and the five lists of permit times

-- "in the hour of t": a permit time p with p <= t and p + 3,600 > t
unfoldable pub within : ℕ → ℕ → Bool
within t p = leb p t && ltb t (p + 3600)

abbrev pub in_hour : ℕ → List ℕ → ℕ
in_hour t [] = 0
in_hour t (p ∷ l) = cond (within t p) (suc (in_hour t l)) (in_hour t l)

-- the time m places from the newest of a list that has the oldest first, the newest counted as one
abbrev pub from_newest : ℕ → List ℕ → ℕ
from_newest m l = get_or l (length l - m) 0

-- where L or more of a list are in the hour of t, the seconds until fewer are: the time L places from the newest, plus 3,600, less now
abbrev pub free_in : ℕ → ℕ → List ℕ → ℕ
free_in t L l = from_newest L l + 3600 - t

pub data Kind : Type 0 where
  attach activation pdp sms reset : Kind

-- the lists that a permit of request q is added to
abbrev pub goes : ℕ → Kind → Bool
goes q attach = eqb q 0 || eqb q 1
goes q activation = eqb q 2
goes q pdp = eqb q 2 || eqb q 4
goes q sms = eqb q 3
goes q reset = eqb q 5

-- ---- Numbers that answer, by table

-- c is one of a table
abbrev pub among : ℕ → List ℕ → Bool
among c [] = false
among c (x ∷ l) = eqb c x || among c l

-- the refusals
abbrev pub refusals : List ℕ
refusals = 1 ∷ 2 ∷ 3 ∷ 4 ∷ 5 ∷ []

-- the limits, and the rules that block, which are the back-off and they, in document 01's order
abbrev pub limiting : List ℕ
limiting = 11 ∷ 13 ∷ 14 ∷ 15 ∷ 16 ∷ 17 ∷ 18 ∷ []

abbrev pub rules : List ℕ
rules = 10 ∷ limiting

-- how many of a table stand before c
abbrev pub place_in : List ℕ → ℕ → ℕ
place_in [] c = 0
place_in (x ∷ l) c = cond (eqb c x) 0 (suc (place_in l c))

-- how many limits are looked at before limit n
abbrev pub rank : ℕ → ℕ
rank n = place_in limiting n

-- the blocks by N1 and F1-F4, and 12, a reset that is ordered: n raises counter n - 11 of the six
abbrev pub counting : List ℕ
counting = 11 ∷ 12 ∷ 13 ∷ 14 ∷ 15 ∷ 16 ∷ []

-- ---- The mood on a cause

-- the mood of service 2 after a rejection: 2 permanent, 3 temporary
unfoldable pub mood_on : ℕ → ℕ
mood_on cause = cond (among cause (8 ∷ 27 ∷ 28 ∷ 29 ∷ 32 ∷ 33 ∷ [])) 2 3

-- ---- Back-off

-- one more, to 255 at most
abbrev pub one_more : ℕ → ℕ
one_more n = min (n + 1) 255

-- with n failures: interval n, or the last when there are fewer
abbrev pub interval : List ℕ → ℕ → ℕ
interval l n = get_or l (min n (length l) - 1) 0

-- B plus the remainder by B of what the card draws
unfoldable pub wait_for : ℕ → List ℕ → ℕ → ℕ
wait_for imsi l n = interval l n + drawn imsi n % interval l n

-- ---- The timed reset

-- the "permanent" rejections of RMM6, CLP.03: MM 2, 3 and 6; GMM 2, 3, 6, 7 and 8
unfoldable pub permanent : (column cause : ℕ) → Bool
permanent column cause =
    (eqb column 0 && among cause (2 ∷ 3 ∷ 6 ∷ [])) || (eqb column 1 && among cause (2 ∷ 3 ∷ 6 ∷ 7 ∷ 8 ∷ []))

-- how long after one the module is reset. T1 is the average, in units of 6 minutes (8.3.2), and the
-- window is a tenth less to a tenth more (RTC1), both ends in it: 72 T1 + 1 seconds, of which the
-- card draws one
unfoldable pub delay_for : (imsi T1 : ℕ) → ℕ
delay_for imsi T1 = 324 * T1 + drawn imsi 0 % (72 * T1 + 1)

-- ---- Intervals

-- none is below the one before it, the first not below lo, and none is above hi
unfoldable pub ascending : ℕ → ℕ → List ℕ → Bool
ascending lo hi [] = true
ascending lo hi (x ∷ xs) = leb lo x && (leb x hi && ascending x hi xs)

-- base intervals: 1 to 10 of them, 1 to 65,535 s, none below the one before
abbrev pub scheduled : List ℕ → Bool
scheduled l = (leb 1 (length l) && leb (length l) 10) && ascending 1 65535 l

-- ---- Counters

-- LR-1 serves C-BR-1, LR-2 C-R-1, LR-3 the four C-PDP
abbrev pub rate_of : Opening → Counter → ℕ
rate_of o C_BR_1 = o.LR1
rate_of o C_R_1 = o.LR2
rate_of o C_PDP_1 = o.LR3
rate_of o C_PDP_2 = o.LR3
rate_of o C_PDP_3 = o.LR3
rate_of o C_PDP_4 = o.LR3

-- a block by N1 or F1-F4, answered n, adds to its own counter, and an ordered reset to C-R-1
abbrev pub raises : Counter → ℕ → Bool
raises C_BR_1 n = eqb n 11
raises C_R_1 n = eqb n 12
raises C_PDP_1 n = eqb n 13
raises C_PDP_2 n = eqb n 14
raises C_PDP_3 n = eqb n 15
raises C_PDP_4 n = eqb n 16

-- a list of four by service, a list of six by counter
abbrev pub four : (ℕ → ℕ) → List ℕ
four f = f 0 ∷ f 1 ∷ f 2 ∷ f 3 ∷ []

abbrev pub six : (Counter → ℕ) → List ℕ
six f = f C_BR_1 ∷ f C_R_1 ∷ f C_PDP_1 ∷ f C_PDP_2 ∷ f C_PDP_3 ∷ f C_PDP_4 ∷ []

-- a counter in a list of six
abbrev pub of_six : List ℕ → Counter → ℕ
of_six l C_BR_1 = get_or l 0 0
of_six l C_R_1 = get_or l 1 0
of_six l C_PDP_1 = get_or l 2 0
of_six l C_PDP_2 = get_or l 3 0
of_six l C_PDP_3 = get_or l 4 0
of_six l C_PDP_4 = get_or l 5 0
