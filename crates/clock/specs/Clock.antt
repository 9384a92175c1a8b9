-- What the parts of the clock do to the places. Assumes nothing.
use Rattle.std.specs.Prelude.{ℕ, ◌+◌, ◌-◌, ◌*◌, ◌/◌, List, get_or, set}
use Rattle.buffer.specs.Places.{OPENED, LAST, RATES, COUNTERS}

-- leak points of a rate after the last time, up to t
abbrev pub gone : (rate opened last t : ℕ) → ℕ
gone rate opened last t = (t - opened) / (rate * 3600) - (last - opened) / (rate * 3600)

-- those of leak rate i, by the places
abbrev pub passed_of : List ℕ → ℕ → ℕ → ℕ
passed_of b i t = gone (get_or b (RATES + i) 0) (get_or b OPENED 0) (get_or b LAST 0) t

-- counter i after g points
abbrev pub drained : List ℕ → ℕ → ℕ → List ℕ
drained b i g = set b (COUNTERS + i) (get_or b (COUNTERS + i) 0 - g)

-- the six counters after the points of their rates
unfoldable pub leaked : List ℕ → ℕ → ℕ → ℕ → List ℕ
leaked b g1 g2 g3 = drained (drained (drained (drained (drained (drained b 0 g1) 1 g2) 2 g3) 3 g3) 4 g3) 5 g3
