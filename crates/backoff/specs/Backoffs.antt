-- A back-off, and what its parts do to the places. Assumes nothing.
use Rattle.std.specs.Prelude.{ℕ, ◌+◌, cond, List, eqb, get_or, set}
use Rattle.rules.specs.Tables.{one_more}
use Rattle.buffer.specs.Places.{FAILURES, ENDS}
use Rattle.backoff.specs.declared.Backoff.{Backoff}

-- no back-off
abbrev pub clear : Backoff
clear = record { failures = 0; end = 0 }

-- one failure more, and another end
abbrev pub later : Backoff → ℕ → Backoff
later b end = record { failures = one_more b.failures; end = end }

-- service i's back-off, read and written
abbrev pub loaded : List ℕ → ℕ → Backoff
loaded b i = record { failures = get_or b (FAILURES + i) 0; end = get_or b (ENDS + i) 0 }

abbrev pub stored : List ℕ → ℕ → Backoff → List ℕ
stored b i x = set (set b (FAILURES + i) x.failures) (ENDS + i) x.end

-- service i backs off for w seconds from t where the answer's number n is 20
unfoldable pub backed : List ℕ → ℕ → ℕ → ℕ → ℕ → List ℕ
backed b t i n w = cond (eqb n 20) (stored b i (later (loaded b i) (t + w))) b
