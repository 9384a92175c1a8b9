-- What opening promises: its answer and all 1,331 places, whatever it is given. Assumes nothing.
use Rattle.std.specs.Prelude.{◌≡◌, Bool, true, cond, ◌&&◌, List, ℕ, ◌+◌, ◌<◌, leb, eqb, length, get_or, replicate}
use Rattle.rules.specs.declared.Answer.{Answer}
use Rattle.rules.specs.Calls.{answer}
use Rattle.rules.specs.Tables.{highest_time, scheduled}
use Rattle.rules.specs.State.{State, fresh}
use Rattle.buffer.specs.Places.{SIZE, PARAMETERS, RATES, COUNTERS}
use Rattle.buffer.specs.Layout.{lay}
use Rattle.buffer.specs.Good.{bytes}
use Rattle.card.specs.Card.{good_or_absent, both_good, ruling_file, six_parameters, three_rates, six_counters}

-- what opening is given: the time, IMSI, intervals, NFM, RPM, A1, S1, the card's three files, and the module's own two
pub record Order : Type 0 where
  pub time : ℕ
  pub imsi : ℕ
  pub intervals : List ℕ
  pub nfm : ℕ
  pub rpm : ℕ
  pub A1 : ℕ
  pub S1 : ℕ
  pub parameters : List ℕ
  pub rates : List ℕ
  pub counters : List ℕ
  pub own_parameters : List ℕ
  pub own_rates : List ℕ

abbrev pub order : (time imsi : ℕ) → List ℕ → (nfm rpm A1 S1 : ℕ) → (parameters rates counters own_parameters own_rates : List ℕ) → Order
order t i l n r a s p q k op oq =
    record { time = t; imsi = i; intervals = l; nfm = n; rpm = r; A1 = a; S1 = s; parameters = p; rates = q; counters = k; own_parameters = op; own_rates = oq }

-- what the arguments' types say: a file is bytes
pub record Typed (o : Order) : Type 0 where
  pub parameters : bytes o.parameters ≡ true
  pub rates : bytes o.rates ≡ true
  pub counters : bytes o.counters ≡ true
  pub own_parameters : bytes o.own_parameters ≡ true
  pub own_rates : bytes o.own_rates ≡ true

-- the settings are in range
unfoldable pub settings : Order → Bool
settings o =
    leb o.imsi 999999999999999 && scheduled o.intervals && leb o.nfm 1 && leb o.rpm 1 && leb o.A1 255 && leb o.S1 255

-- each of the card's files is good or absent, and the module's own are good
unfoldable pub files : Order → Bool
files o = both_good 32 6 o.parameters o.own_parameters && both_good 6 3 o.rates o.own_rates && good_or_absent 32 6 o.counters

-- the first check that fails: 1 length of the state, 2 settings and files, 3 time; 0 if none
unfoldable pub open_number : List ℕ → Order → ℕ
open_number b o = cond (eqb (length b) SIZE) (cond (settings o && files o) (cond (leb o.time highest_time) 0 3) 2) 1

-- what a record begins with, of an order and the bytes of the files that rule: six parameters, three leak rates, six counters
unfoldable pub begun : Order → (p r k : List ℕ) → State
begun o p r k =
    fresh
    (record {
      opened = o.time;
      imsi = o.imsi;
      rpm = o.rpm;
      N1 = get_or p 0 0;
      T1 = get_or p 1 0;
      F1 = get_or p 2 0;
      F2 = get_or p 3 0;
      F3 = get_or p 4 0;
      F4 = get_or p 5 0;
      A1 = o.A1;
      S1 = o.S1;
      LR1 = get_or r 0 0;
      LR2 = get_or r 1 0;
      LR3 = get_or r 2 0;
    })
    o.nfm o.intervals k

-- what the record since this opening begins with
abbrev pub given_by : Order → State
given_by o = begun o (six_parameters o.parameters o.own_parameters) (three_rates o.rates o.own_rates) (six_counters o.counters)

abbrev pub open_answer : List ℕ → Order → Answer
open_answer b o = answer (open_number b o) 0

-- a refused opening changes nothing; any other lays out a new state
unfoldable pub open_after : List ℕ → Order → List ℕ
open_after b o = cond (eqb (open_number b o) 0) (lay (given_by o)) b

-- opening the buffer b by o gives r and leaves x
pub record OpenSays (b : List ℕ) (o : Order) (r : Answer) (x : List ℕ) : Type 0 where
  pub answered : r ≡ open_answer b o
  pub left : x ≡ open_after b o

-- what rules in the buffer x that o opened: places 20-25, 28-30 and 44-49 are the bytes of the card's file, or of the module's own where the card has
-- none; absent counters begin at 0
pub record Ruled (o : Order) (x : List ℕ) : Type 0 where
  pub parameters : (i : ℕ) → i < 6 → get_or x (PARAMETERS + i) 0 ≡ get_or (ruling_file o.parameters o.own_parameters) i 0
  pub rates : (i : ℕ) → i < 3 → get_or x (RATES + i) 0 ≡ get_or (ruling_file o.rates o.own_rates) i 0
  pub counters : (i : ℕ) → i < 6 → get_or x (COUNTERS + i) 0 ≡ get_or (ruling_file o.counters (replicate 32 0)) i 0
