-- What a reset that is ordered does to the places. Assumes nothing.
use Rattle.std.specs.Prelude.{ℕ, List}
use Rattle.rules.specs.Rules.{moved}
use Rattle.buffer.specs.Layout.{spread, rows, facts_of, view}
use Rattle.request.specs.Request.{tallied, sent}

-- the clock goes to t, then it is as a permit of request 5, and counts as answer 12
abbrev pub ordered : List ℕ → ℕ → List ℕ
ordered b t = tallied (sent (spread (moved t (facts_of b)) (rows (view b).lists)) 5 t) 12
