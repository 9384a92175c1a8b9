-- A refused call changes nothing in any buffer that it was lent, whatever these hold. Assumes
-- nothing.
use mathlib.Core.Path.{◌≡◌, refl, sym, ap, ◌∙◌}
use mathlib.Core.Bool.{Bool, true, false, cond, not, ◌&&◌}
use mathlib.Core.List.{List}
use mathlib.Core.Logic.{◌≢◌}
use Prim.Native.Nat.{ℕ}
use borrow.Author.Tests.{ne_eqb}
use Rattle.rules.specs.declared.Answer.{Answer}
use Rattle.rules.specs.Calls.{Call, answer}
use Rattle.rules.specs.Rules.{ruling, refused, step}
use Rattle.buffer.specs.Layout.{lay, facts_of, view}
use Rattle.buffer.specs.Good.{good}
use Rattle.card.specs.Card.{written}
use Rattle.clock.specs.Call.{call_answer, call_after, Says}
use Rattle.reasons.specs.Why.{RoomSays}
use Rattle.reasons.proofs.Room.{room_left}
use Rattle.opening.specs.Open.{Order, open_number, open_after, OpenSays}
use Rattle.turning.specs.Turning.{turned, turns, TurnSays}
use Rattle.saving.specs.Save.{saves, SaveSays}
use Rattle.command.specs.Command.{CommandSays}
use Rattle.command.proofs.Lined.{refused_line}

pub call_refused : (b : List ℕ) (c : Call) (r : Answer) (x : List ℕ) → Says b c r x → refused r ≡ true → x ≡ b
unfolding call_answer call_after
call_refused b c r x s h = s.left ∙ go (good b) (ap refused (sym s.answered) ∙ h)
  where
    go : (g : Bool) → refused (cond g (ruling (view b) c) (answer 1 0)) ≡ true → cond (g && not (refused (ruling (view b) c))) (lay (step (view b) c)) b ≡ b
    go false e = refl
    go true e = rw e

pub open_refused : (b : List ℕ) (o : Order) (r : Answer) (x : List ℕ) → OpenSays b o r x → r.number ≢ 0 → x ≡ b
unfolding open_after
open_refused b o r x s h = s.left ∙ rw (ne_eqb (open_number b o) 0 (λ z. h (ap (λ (a : Answer). a.number) s.answered ∙ z)))

-- the older buffer is lent to be read only
pub turn_refused : (old b : List ℕ) (r : Answer) (x : List ℕ) → TurnSays old b r x → r.number ≢ 0 → x ≡ b
turn_refused old b r x s h = s.left ∙ go (turns old b) (ap (λ (a : Answer). a.number) s.answered)
  where
    go : (w : Bool) → r.number ≡ cond w 0 1 → cond w (turned old) b ≡ b
    go true e = absurd (h e)
    go false e = refl

-- the counter file never changes the state, and the room only where it is written
pub save_refused : (b room : List ℕ) (r : Answer) (x y : List ℕ) → SaveSays b room r x y → r.number ≢ 0 → (x ≡ b) × (y ≡ room)
save_refused b room r x y s h = (s.left, s.room ∙ go (saves b room) (ap (λ (a : Answer). a.number) s.answered))
  where
    go : (w : Bool) → r.number ≡ (cond w (answer 0 32) (answer 1 0)).number → cond w (written (facts_of b).counters) room ≡ room
    go true e = absurd (h e)
    go false e = refl

-- a line that is refused leaves the state and the room
pub command_refused : (b line room : List ℕ) (r : Answer) (x y : List ℕ) → CommandSays b line room r x y → r.number ≢ 0 → (x ≡ b) × (y ≡ room)
command_refused b line room r x y s h = refused_line s h

-- `why` is lent the state to be read only; what is refused leaves the room
pub why_refused : (b : List ℕ) (t q : ℕ) (room : List ℕ) (r : Answer) (x : List ℕ) → RoomSays b t q room r x → refused r ≡ true → x ≡ room
why_refused b t q room r x s h = room_left b t q room r x s h
