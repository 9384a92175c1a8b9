-- Every call on one buffer, one after the other, as the calls' own promises have it; and the record
-- that they leave: the calls since the last opening or turning that was accepted. Assumes nothing.
use Rattle.std.specs.Prelude.{Bool, cond, ◌&&◌, List, [], ◌∷◌, ◌++◌, ℕ, leb, length}
use Rattle.rules.specs.declared.Answer.{Answer}
use Rattle.rules.specs.Calls.{Call, typed, Entry}
use Rattle.rules.specs.Tables.{highest_time}
use Rattle.rules.specs.State.{State}
use Rattle.rules.specs.Told.{entered}
use Rattle.clock.specs.Call.{Says}
use Rattle.buffer.specs.Layout.{view}
use Rattle.opening.specs.Open.{Order, Typed, settings, files, given_by, OpenSays}
use Rattle.turning.specs.Turning.{good1, TurnSays}
use Rattle.saving.specs.Save.{SaveSays}
use Rattle.at.specs.Lines.{read_line}
use Rattle.command.specs.Command.{CommandSays}

-- a call on the buffer: an opening; an older buffer turned into it; a request, an outcome or the
-- clock call; an AT line, with its room; the counter file, with its room
pub data Doing : Type 0 where
  opens : Order → Doing
  turns : (old : List ℕ) → Doing
  calls : Call → Doing
  types : (line room : List ℕ) → Doing
  saves : (room : List ℕ) → Doing

-- doing d on the buffer b leaves x, by the promise of its call; r is its answer, and y what is left of a room
pub data Done (b : List ℕ) : Doing → Answer → List ℕ → Type 0 where
  opened : {o : Order} {r : Answer} {x : List ℕ} → Typed o → OpenSays b o r x → Done b (opens o) r x
  turned : {old : List ℕ} {r : Answer} {x : List ℕ} → TurnSays old b r x → Done b (turns old) r x
  called : {c : Call} {r : Answer} {x : List ℕ} → Says b c r x → Done b (calls c) r x
  obeyed : {line room : List ℕ} {r : Answer} {x y : List ℕ} → CommandSays b line room r x y → Done b (types line room) r x
  saved : {room : List ℕ} {r : Answer} {x y : List ℕ} → SaveSays b room r x y → Done b (saves room) r x

-- doings one after the other, from the buffer b to the buffer x, with their answers
pub data Run : List ℕ → List Doing → List Answer → List ℕ → Type 0 where
  done : {b : List ℕ} → Run b [] [] b
  then : {b c x : List ℕ} {d : Doing} {ds : List Doing} {r : Answer} {rs : List Answer} → Done b d r c → Run c ds rs x → Run b (d ∷ ds) (r ∷ rs) x

-- an opening of 1,331 places that is accepted
unfoldable pub accepts : Order → Bool
accepts o = settings o && files o && leb o.time highest_time

-- since the last accepted opening or turning, or since the first start where there was none: that
-- start, the calls after it, the oldest first, and the answers that they were given, one for each
pub record Since : Type 0 where
  pub given : State
  pub before : List Call
  pub answers : List Answer

abbrev pub begun : State → Since
begun g = record { given = g; before = []; answers = [] }

abbrev pub heard : Since → Call → Answer → Since
heard h c r = record { given = h.given; before = h.before ++ (c ∷ []); answers = h.answers ++ (r ∷ []) }

-- what doings with the answers rs make of it. A turning is an opening whose record begins with what
-- the buffer read holds. A line whose room is under 16 bytes is not read
abbrev pub since : Since → List Doing → List Answer → Since
since h [] rs = h
since h (d ∷ ds) [] = h
since h (opens o ∷ ds) (r ∷ rs) = since (cond (accepts o) (begun (given_by o)) h) ds rs
since h (turns old ∷ ds) (r ∷ rs) = since (cond (good1 old) (begun (view old)) h) ds rs
since h (calls c ∷ ds) (r ∷ rs) = since (heard h c r) ds rs
since h (types line room ∷ ds) (r ∷ rs) = since (cond (leb 16 (length room)) (heard h (typed (read_line line)) r) h) ds rs
since h (saves room ∷ ds) (r ∷ rs) = since h ds rs

-- the record of calls and the answers that they were given, the newest first; a refused call is no
-- part of it
abbrev pub recorded : List Entry → List Call → List Answer → List Entry
recorded past [] rs = past
recorded past (c ∷ cs) [] = past
recorded past (c ∷ cs) (r ∷ rs) = recorded (entered c r past) cs rs

abbrev pub record_since : Since → List Entry
record_since h = recorded [] h.before h.answers
