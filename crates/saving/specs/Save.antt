-- What the counter file's call promises: its answer, every byte of the room and every place of the state. Assumes nothing.
use Rattle.std.specs.Prelude.{◌≡◌, Bool, cond, ◌&&◌, List, ℕ, eqb, length}
use Rattle.rules.specs.declared.Answer.{Answer}
use Rattle.rules.specs.Calls.{answer}
use Rattle.buffer.specs.Layout.{facts_of}
use Rattle.buffer.specs.Good.{good}
use Rattle.card.specs.Card.{written}

-- a good state, and exactly 32 bytes of room
unfoldable pub saves : List ℕ → List ℕ → Bool
saves b room = good b && eqb (length room) 32

-- writing counters from the state b to the room out gives r, leaves the state x and the room y
pub record SaveSays (b out : List ℕ) (r : Answer) (x y : List ℕ) : Type 0 where
  pub answered : r ≡ cond (saves b out) (answer 0 32) (answer 1 0)
  pub left : x ≡ b
  pub room : y ≡ cond (saves b out) (written (facts_of b).counters) out
