-- Lists of tests. Assumes nothing.
use mathlib.Core.Path.{◌≡◌, refl, sym, ◌∙◌}
use mathlib.Core.Bool.{Bool, true, false, not, ◌&&◌, false≢true, and-false}
use mathlib.Core.List.{List, [], ◌∷◌}
use Prim.Native.Nat.{ℕ, zero, suc}
use lib.ListN.{get_or}
use borrow.Author.Tests.{not-true, not-false}
use Rattle.rules.proofs.Checks.{and_left, and_right}
use Rattle.buffer.specs.Good.{from, every}

from_true : (a : Bool) (ts : List Bool) → from a ts ≡ true → a ≡ true
from_true a [] h = h
from_true a (t ∷ ts) h = and_left a t (from_true (a && t) ts h)

from_false : (ts : List Bool) → from false ts ≡ false
from_false [] = refl
from_false (t ∷ ts) = from_false ts

-- a test for each
abbrev pub Each : List Bool → Type 0
Each [] = Unit {0}
Each (t ∷ ts) = (t ≡ true) × Each ts

each_from : (a : Bool) (ts : List Bool) → from a ts ≡ true → Each ts
each_from a [] h = tt
each_from a (t ∷ ts) h = (and_right a t (from_true (a && t) ts h), each_from (a && t) ts h)

pub each : (ts : List Bool) → every ts ≡ true → Each ts
each ts h = each_from true ts h

passed_from : (a : Bool) (ts : List Bool) → a ≡ true → Each ts → from a ts ≡ true
passed_from a [] e h = e
passed_from a (t ∷ ts) e h = passed_from (a && t) ts (rw (e, h.0)) h.1

pub passed : (ts : List Bool) → Each ts → every ts ≡ true
passed ts h = passed_from true ts refl h

-- test k
pub nth : (ts : List Bool) (k : ℕ) → Each ts → get_or ts k true ≡ true
nth [] k h = refl
nth (t ∷ ts) zero h = h.0
nth (t ∷ ts) (suc k) h = nth ts k h.1

pub pick : (ts : List Bool) (k : ℕ) → every ts ≡ true → get_or ts k true ≡ true
pick ts k h = nth ts k (each ts h)

fails_from : (a : Bool) (ts : List Bool) (k : ℕ) → get_or ts k true ≡ false → false ≡ from a ts
fails_from a [] k h = absurd (false≢true (sym h))
fails_from a (t ∷ ts) zero h = rw (h, and-false a) (sym (from_false ts))
fails_from a (t ∷ ts) (suc k) h = fails_from (a && t) ts k h

pub fails : (ts : List Bool) (k : ℕ) → get_or ts k true ≡ false → false ≡ every ts
fails ts k h = fails_from true ts k h

-- what a branch on `!f(..)` tells of the test that f answers
pub no_of : {r t : Bool} → r ≡ t → not r ≡ true → t ≡ false
no_of {r} e h = sym e ∙ not-true r h

pub yes_of : {r t : Bool} → r ≡ t → not r ≡ false → t ≡ true
yes_of {r} e h = sym e ∙ not-false r h

-- another first test
pub first_is : (a b : Bool) (ts : List Bool) → b ≡ true → every (a ∷ ts) ≡ true → every (b ∷ ts) ≡ true
first_is a b ts h g = passed (b ∷ ts) (h, (each (a ∷ ts) g).1)

-- what `f(..) & g(..)` answers
pub both : {a b c d : Bool} → a ≡ b → c ≡ d → (a && c) ≡ (b && d)
both p q = λ i. p i && q i
