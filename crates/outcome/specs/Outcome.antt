-- What the parts of an outcome do to the places. Assumes nothing.
use Rattle.std.specs.Prelude.{ℕ, ◌+◌, Bool, cond, List, eqb, set}
use Rattle.rules.specs.Rules.{check, timely, standing, moved}
use Rattle.rules.specs.State.{Facts, Services, with_services}
use Rattle.buffer.specs.Places.{STANDING, MOOD}
use Rattle.buffer.specs.Layout.{spread, rows, facts_of, view}

-- service i stands at x, and service 2 gets mood m
unfoldable pub rested : List ℕ → ℕ → ℕ → ℕ → List ℕ
rested b i x m = cond (eqb i 2) (set (set b (STANDING + i) x) MOOD m) (set b (STANDING + i) x)

-- the first check that an outcome of service i fails
abbrev pub checked : Facts → ℕ → Bool → ℕ → ℕ
checked f t range i = check range 2 (check (timely f t) 3 (check (eqb (standing f i) 1) 4 0))

-- the clock goes to t
abbrev pub clocked : List ℕ → ℕ → List ℕ
clocked b t = spread (moved t (facts_of b)) (rows (view b).lists)

-- the clock goes to t, and the services become v
abbrev pub served : List ℕ → ℕ → Services → List ℕ
served b t v = spread (with_services (moved t (facts_of b)) v) (rows (view b).lists)
