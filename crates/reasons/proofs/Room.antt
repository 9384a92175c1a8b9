-- What is said in two numbers and a lent room, from what was found; a refusal leaves the room.
-- Assumes nothing.
use mathlib.Core.Path.{◌≡◌, refl, sym, ap, ◌∙◌}
use mathlib.Core.Bool.{Bool, true, false, cond, false≢true}
use mathlib.Core.List.{List}
use mathlib.Core.Logic.{◌≢◌}
use Prim.Native.Nat.{ℕ, ◌<◌}
use native.Mathlib.Omega.{arith}
use lib.Dec.{eqb}
use lib.ListN.{length}
use borrow.Author.Tests.{eqb-true, eqb-false, ne_eqb}
use Rattle.rules.specs.declared.Answer.{Answer}
use Rattle.rules.specs.Calls.{timed, answer}
use Rattle.rules.specs.declared.Event.TheVariants.{Ask as ask}
use Rattle.rules.specs.Tables.{refusals, rules}
use Rattle.rules.specs.Rules.{refusal, ruling, refused}
use Rattle.rules.specs.State.{State}
use Rattle.rules.proofs.Among.{All, all_map, not_among}
use Rattle.buffer.specs.Layout.{view}
use Rattle.buffer.specs.Good.{good}
use Rattle.reasons.specs.declared.said.Why.{Why}
use Rattle.reasons.specs.Why.{stand, weigh, how_many, times, refused_by, reasons, why_of, room_refusal, RoomSays}
use Rattle.reasons.proofs.Alone.{first_is}
use Rattle.reasons.proofs.Bits.{first_named_is}

module _ (b : List ℕ) (t q : ℕ) (room : List ℕ) where
  pub room_other : length room ≢ 8 → RoomSays b t q room (answer 1 0) room
  unfolding room_refusal
  room_other h = record { answered = rw (ne_eqb (length room) 8 h); left = rw (ne_eqb (length room) 8 h) }

  module _ (long : length room ≡ 8) (r : Why) (e : r ≡ why_of b t q) where
    number : room_refusal b t q room ≡ r.refusal
    unfolding room_refusal
    number = rw long (ap (λ (x : Why). x.refusal) (sym e))

    pub room_refused : r.refusal ≢ 0 → RoomSays b t q room (answer r.refusal 0) room
    room_refused h = record { answered = rw (number, ne_eqb r.refusal 0 h); left = rw (number, ne_eqb r.refusal 0 h) }

    pub room_said : {x : List ℕ} → r.refusal ≡ 0 → x ≡ r.times → RoomSays b t q room (answer r.first r.bits) x
    room_said z d = record {
      answered = rw (number, z) (λ i. answer (e i).first (e i).bits);
      left = rw (number, z) (d ∙ ap (λ (y : Why). y.times) e);
    }

-- ---- A refusal leaves the room

-- no refusal
abbrev Passes : ℕ → Type 0
Passes n = All (λ x. n ≢ x) refusals

-- every rule's number does
rules_pass : All Passes rules
rules_pass = all_map {P = λ n. 5 < n} {Q = Passes} rules (λ n h. omega arith) (omega arith)

first_passes : (w : State) (t q : ℕ) → (reasons w t q).refusal ≡ 0 → Passes (reasons w t q).first
unfolding reasons
first_passes w t q e = go (eqb n 0) refl e
  where
    n : ℕ
    n = refusal w.facts (timed t (ask q))

    said : Why
    said = record { refusal = 0; bits = weigh (stand w t q); count = how_many (stand w t q); first = (ruling w (timed t (ask q))).number; times = times w t q }

    go : (b : Bool) → eqb n 0 ≡ b → (cond b said (refused_by n)).refusal ≡ 0 → Passes (cond b said (refused_by n)).first
    go true z e = rw (← first_is w t q (eqb-true n 0 z)) (first_named_is Passes rules (stand w t q) (omega arith) rules_pass)
    go false z e = absurd (eqb-false n 0 z e)

why_passes : (b : List ℕ) (t q : ℕ) → (why_of b t q).refusal ≡ 0 → Passes (why_of b t q).first
unfolding why_of
why_passes b t q e = go (good b) e
  where
    go : (g : Bool) → (cond g (reasons (view b) t q) (refused_by 1)).refusal ≡ 0 → Passes (cond g (reasons (view b) t q) (refused_by 1)).first
    go true e = first_passes (view b) t q e
    go false e = absurd (omega arith)

pub room_left : (b : List ℕ) (t q : ℕ) (room : List ℕ) (r : Answer) (x : List ℕ) → RoomSays b t q room r x → refused r ≡ true → x ≡ room
unfolding room_refusal
room_left b t q room r x s h = s.left ∙ go (eqb n 0) refl (ap refused (sym s.answered) ∙ h)
  where
    n : ℕ
    n = room_refusal b t q room

    passed : (c : Bool) → cond c (why_of b t q).refusal 1 ≡ 0 → (why_of b t q).refusal ≡ 0
    passed true e = e
    passed false e = absurd (omega arith)

    go : (c : Bool) → eqb n 0 ≡ c → refused (cond c (answer (why_of b t q).first (why_of b t q).bits) (answer n 0)) ≡ true → cond c (why_of b t q).times room ≡ room
    go true z e =
        let p = why_passes b t q (passed (eqb (length room) 8) (eqb-true n 0 z)) in
        absurd (false≢true (sym (not_among (why_of b t q).first refusals p) ∙ e))
    go false z e = refl
