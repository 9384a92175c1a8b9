-- What the call for AT lines promises: its answer, every place of the state and every byte of the room. Assumes nothing.
use Rattle.std.specs.Prelude.{◌≡◌, Bool, cond, ◌&&◌, List, [], ◌∷◌, ◌++◌, ℕ, ◌+◌, leb, length}
use Rattle.rules.specs.declared.Answer.{Answer}
use Rattle.rules.specs.Calls.{Line, query, nfm, nfm_start, intervals, bad, typed, answer}
use Rattle.rules.specs.State.{Facts}
use Rattle.buffer.specs.Segments.{paste}
use Rattle.buffer.specs.Layout.{facts_of}
use Rattle.buffer.specs.Good.{good}
use Rattle.clock.specs.Call.{call_answer, call_after}
use Rattle.at.specs.Lines.{read_line}

-- ---- The answer's bytes

-- OK CR LF
abbrev pub okay : List ℕ
okay = 79 ∷ 75 ∷ 13 ∷ 10 ∷ []

-- +NFM: a,s CR LF
abbrev pub shown : ℕ → ℕ → List ℕ
shown a s = 43 ∷ 78 ∷ 70 ∷ 77 ∷ 58 ∷ 32 ∷ (48 + a) ∷ 44 ∷ (48 + s) ∷ 13 ∷ 10 ∷ []

-- the answer to a line, which is written from the front of the room; a refused one has none
abbrev pub reply : Facts → Line → List ℕ
reply f query = shown f.mode.nfm f.mode.start ++ okay
reply f (nfm a) = okay
reply f (nfm_start a s) = okay
reply f (intervals l) = okay
reply f bad = []

-- ---- The call

-- a good state, and at least 16 bytes of room
unfoldable pub heard : List ℕ → List ℕ → Bool
heard b room = good b && leb 16 (length room)

-- the line `line`, with the state b and the room `room`, gives r, leaves the state x and the room y
pub record CommandSays (b line room : List ℕ) (r : Answer) (x y : List ℕ) : Type 0 where
  pub answered : r ≡ cond (heard b room) (call_answer b (typed (read_line line))) (answer 1 0)
  pub left : x ≡ cond (heard b room) (call_after b (typed (read_line line))) b
  pub written : y ≡ cond (heard b room) (paste room 0 (reply (facts_of b) (read_line line))) room
