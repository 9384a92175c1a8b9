-- What every timed call, and every AT line, promises of the buffer that it is lent: the answer and
-- all 1,331 places, whatever the buffer holds. Assumes nothing.
use Rattle.std.specs.Prelude.{◌≡◌, cond, not, ◌&&◌, List, ℕ}
use Rattle.rules.specs.declared.Answer.{Answer}
use Rattle.rules.specs.Calls.{Call, answer}
use Rattle.rules.specs.Rules.{ruling, refused, step}
use Rattle.buffer.specs.Layout.{lay, view}
use Rattle.buffer.specs.Good.{good}

-- a bad buffer is answered 1; a good one as the rules say of the state that it holds
unfoldable pub call_answer : List ℕ → Call → Answer
call_answer b c = cond (good b) (ruling (view b) c) (answer 1 0)

-- a refused call changes nothing; any other lays out what the rules make of the state
unfoldable pub call_after : List ℕ → Call → List ℕ
call_after b c = cond (good b && not (refused (ruling (view b) c))) (lay (step (view b) c)) b

-- call c on the buffer b gives r and leaves x
pub record Says (b : List ℕ) (c : Call) (r : Answer) (x : List ℕ) : Type 0 where
  pub answered : r ≡ call_answer b c
  pub left : x ≡ call_after b c
