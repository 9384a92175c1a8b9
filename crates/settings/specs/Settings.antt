-- What AT lines do to the places. Assumes nothing.
use Rattle.std.specs.Prelude.{cond, List, ℕ, eqb, length, set}
use Rattle.buffer.specs.Places.{NFM, START, COUNT, INTERVALS}
use Rattle.buffer.specs.Segments.{pad, paste}
use Rattle.backoff.specs.Backoffs.{stored, clear}

-- no service has a failure or an end
abbrev pub calmed : List ℕ → List ℕ
calmed b = stored (stored (stored (stored b 0 clear) 1 clear) 2 clear) 3 clear

-- NFM becomes a, Start Timer s; a = 0 sets failures and ends to 0
unfoldable pub turned : List ℕ → ℕ → ℕ → List ℕ
turned b a s = cond (eqb a 0) (calmed (set (set b NFM a) START s)) (set (set b NFM a) START s)

-- the intervals become l
abbrev pub timed_by : List ℕ → List ℕ → List ℕ
timed_by b l = paste (set b COUNT (length l)) INTERVALS (pad 10 l)
