-- The card's files, of document 01's section "Card files": bytes in, meaning out. Assumes nothing.
use Rattle.std.specs.Prelude.{ℕ, ◌≡◌, Bool, true, cond, ◌&&◌, List, [], ◌∷◌, eqb, length, get_or, take, drop, replicate}
use Rattle.std.specs.Borrow.{Bor}

-- every byte is 0
unfoldable pub blank : List ℕ → Bool
blank [] = true
blank (x ∷ l) = eqb x 0 && blank l

-- a file of so many bytes, the first n used and every other 0
unfoldable pub file : (long n : ℕ) → List ℕ → Bool
file long n b = eqb (length b) long && blank (drop n b)

-- parameters: 32 bytes, 1-6 are N1, T1, F1, F2, F3, F4
abbrev pub parameter_file : List ℕ → Bool
parameter_file b = file 32 6 b

-- leak rates: 6 bytes, 1-3 are LR-1 to LR-3
abbrev pub rate_file : List ℕ → Bool
rate_file b = file 6 3 b

-- counters: 32 bytes, 1-6 in the order of places 44-49
abbrev pub counter_file : List ℕ → Bool
counter_file b = file 32 6 b

-- ---- Files that a card may lack: the module has one of its own for each

-- an absent file has length 0
unfoldable pub absent : List ℕ → Bool
absent b = eqb (length b) 0

-- what a card may hand in: the file as document 01 has it, or none
unfoldable pub good_or_absent : (long n : ℕ) → List ℕ → Bool
good_or_absent long n b = cond (absent b) true (file long n b)

-- the two are good: the card's, if there is one, and the module's, used or not
unfoldable pub both_good : (long n : ℕ) → (card own : List ℕ) → Bool
both_good long n card own = good_or_absent long n card && file long n own

-- the file that rules: the card's, or the module's where the card has none
unfoldable pub ruling_file : (card own : List ℕ) → List ℕ
ruling_file card own = cond (absent card) own card

-- its first n bytes, or none where either file is bad
unfoldable pub part : (long n : ℕ) → (card own : List ℕ) → List ℕ
part long n card own = cond (both_good long n card own) (take n (ruling_file card own)) []

-- r is that part, without a copy: it points to where the file that rules begins
pub record IsPart (long n : ℕ) (card own r : Bor (List ℕ)) : Type 0 where
  pub begins : r.ref_ptr ≡ cond (absent card.now) own.ref_ptr card.ref_ptr
  pub holds : r.now ≡ part long n card.now own.now

-- the six bytes that rule
abbrev pub six_parameters : (card own : List ℕ) → List ℕ
six_parameters card own = part 32 6 card own

-- the three leak rates that rule
abbrev pub three_rates : (card own : List ℕ) → List ℕ
three_rates card own = part 6 3 card own

-- the six counters; absent ones begin at 0
abbrev pub six_counters : (card : List ℕ) → List ℕ
six_counters card = part 32 6 card (replicate 32 0)

-- RTC10's values as a parameter file: N1 20, T1 60 minutes in units of 6, F1 60, F2 30, F3 60, F4 30
abbrev pub rtc10 : List ℕ
rtc10 = 20 ∷ 10 ∷ 60 ∷ 30 ∷ 60 ∷ 30 ∷ replicate 26 0

-- ---- The counter file that is written

-- the file that six counters are written as
unfoldable pub written : List ℕ → List ℕ
written c = get_or c 0 0 ∷ get_or c 1 0 ∷ get_or c 2 0 ∷ get_or c 3 0 ∷ get_or c 4 0 ∷ get_or c 5 0 ∷ replicate 26 0
