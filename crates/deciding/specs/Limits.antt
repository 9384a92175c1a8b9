-- What the parts of a decision read: the rows of the limits, and what is left of a back-off.
-- Assumes nothing.
use Rattle.std.specs.Prelude.{ℕ, ◌-◌, ◌≡◌, false, cond, leb, get_or}
use Rattle.rules.specs.Tables.{attach}
use Rattle.rules.specs.Rules.{Limit, limit, limits}
use Rattle.rules.specs.State.{Facts}
use Rattle.buffer.specs.Layout.{place}
use Rattle.deciding.specs.declared.Row.{Row}

-- row i, 0 to 6, of the limits on request q
abbrev pub limit_at : Facts → ℕ → ℕ → Limit
limit_at f q i = get_or (limits f q) i (limit 0 false 0 attach)

-- a row of the code is that limit
pub record RowOf (l : Limit) (r : Row) : Type 0 where
  pub number : r.number ≡ l.number
  pub applies : r.applies ≡ l.applies
  pub most : r.most ≡ l.most
  pub list : r.list ≡ place l.kind

-- seconds left of the back-off that holds request q, and 0 where none runs
abbrev pub waiting : Facts → ℕ → ℕ → ℕ
waiting f t q = cond (leb q 3) (get_or f.services.ends q 0 - t) 0
