-- What the turning call promises: its answer and all 1,331 places, whatever the two buffers hold.
-- Assumes nothing.
use Rattle.std.specs.Prelude.{◌≡◌, Bool, cond, ◌&&◌, List, [], ◌∷◌, ◌++◌, ℕ, eqb, length, set}
use Rattle.rules.specs.declared.Answer.{Answer}
use Rattle.rules.specs.Calls.{answer}
use Rattle.buffer.specs.Places.{SIZE, BASE, VERSION, CURRENT}
use Rattle.buffer.specs.Good.{good_as}

-- a good buffer of version 1: 1,330 numbers
unfoldable pub good1 : List ℕ → Bool
good1 b = good_as BASE 1 b

-- the buffer of version 2 that holds the same: its places, the version, and no reset due
unfoldable pub turned : List ℕ → List ℕ
turned b = set b VERSION CURRENT ++ (0 ∷ [])

-- `old` is a good buffer of version 1, and 1,331 places are there for what it turns into
unfoldable pub turns : (old b : List ℕ) → Bool
turns old b = good1 old && eqb (length b) SIZE

-- turning `old` into the buffer b gives r and leaves x
pub record TurnSays (old b : List ℕ) (r : Answer) (x : List ℕ) : Type 0 where
  pub answered : r ≡ answer (cond (turns old b) 0 1) 0
  pub left : x ≡ cond (turns old b) (turned old) b
