-- The places of document 01's table, by name: definitions and contracts use no other numbers of places. The code has them as constants of the
-- same names.
-- Assumes nothing.
use Rattle.std.specs.Prelude.{ℕ}

-- 1,331 numbers
abbrev pub SIZE : ℕ
SIZE = 1331

-- four bytes for each
abbrev pub BYTES : ℕ
BYTES = 5324

-- the version of this table; the places of the first version stand in front in every version
abbrev pub CURRENT : ℕ
CURRENT = 2

abbrev pub BASE : ℕ
BASE = 1330

-- 0: letters WRP
abbrev pub LETTERS : ℕ
LETTERS = 0

-- 1: version
abbrev pub VERSION : ℕ
VERSION = 1

-- 2, 3: opening time; last time
abbrev pub OPENED : ℕ
OPENED = 2

abbrev pub LAST : ℕ
LAST = 3

-- 4, 5: IMSI, quotient and remainder by 2^32
abbrev pub QUOTIENT : ℕ
QUOTIENT = 4

abbrev pub REMAINDER : ℕ
REMAINDER = 5

-- 6, 7, 8: NFM, Start Timer, RPM
abbrev pub NFM : ℕ
NFM = 6

abbrev pub START : ℕ
START = 7

abbrev pub RPM : ℕ
RPM = 8

-- 9, 10-19: number of base intervals; intervals
abbrev pub COUNT : ℕ
COUNT = 9

abbrev pub INTERVALS : ℕ
INTERVALS = 10

-- 20-25: N1, T1, F1, F2, F3, F4
abbrev pub PARAMETERS : ℕ
PARAMETERS = 20

-- 26, 27: A1, S1
abbrev pub HOUSE : ℕ
HOUSE = 26

-- 28-30: LR-1, LR-2, LR-3
abbrev pub RATES : ℕ
RATES = 28

-- 31-34: failures in a row
abbrev pub FAILURES : ℕ
FAILURES = 31

-- 35-38: back-off ends
abbrev pub ENDS : ℕ
ENDS = 35

-- 39-42: standing
abbrev pub STANDING : ℕ
STANDING = 39

-- 43: PDP mood
abbrev pub MOOD : ℕ
MOOD = 43

-- 44-49: counters
abbrev pub COUNTERS : ℕ
COUNTERS = 44

-- 50-54, 55-1329: lengths of five lists; the lists, of 255 places each
abbrev pub LENGTHS : ℕ
LENGTHS = 50

abbrev pub LISTS : ℕ
LISTS = 55

abbrev pub ROOM : ℕ
ROOM = 255

-- 1330: due time of the timed reset; 0 is none
abbrev pub DUE : ℕ
DUE = 1330
