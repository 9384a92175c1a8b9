-- One list of permit times in its own 255 places. Assumes nothing.
use Rattle.std.specs.Prelude.{◌≡◌, cond, List, [], ◌∷◌, ◌++◌, ℕ, ◌-◌, ◌≤◌, leb, length, take, drop, replicate}
use Rattle.rules.specs.Tables.{in_hour, free_in}
use Rattle.rules.specs.Rules.{newest}

-- 255 places, the first n in use and the rest 0
pub record Holds (p : List ℕ) (n : ℕ) : Type 0 where
  pub long : length p ≡ 255
  pub used : n ≤ 255
  pub zeros : drop n p ≡ replicate (255 - n) 0

-- the list with t added as its newest time: at 255 the oldest goes
abbrev pub added : List ℕ → ℕ → ℕ → List ℕ
added p n t = newest (take n p ++ (t ∷ []))

-- its 255 places after that, those that are not in use 0
abbrev pub appended : List ℕ → ℕ → ℕ → List ℕ
appended p n t = added p n t ++ replicate (255 - length (added p n t)) 0

-- from t on, the seconds until fewer than L of a list are in the hour, and 0 where fewer are at t
unfoldable pub full_for : ℕ → ℕ → List ℕ → ℕ
full_for t L l = cond (leb L (in_hour t l)) (free_in t L l) 0
