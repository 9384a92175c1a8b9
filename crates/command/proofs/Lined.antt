-- What a line does to a good buffer, and what the call says in each of its cases. Assumes nothing.
use mathlib.Core.Path.{◌≡◌, refl, sym, ap, ◌∙◌, subst}
use mathlib.Core.Bool.{Bool, true, false, and-false}
use mathlib.Core.List.{List, ◌++◌}
use mathlib.Core.Logic.{◌≢◌}
use Prim.Native.Nat.{ℕ, ◌≤◌}
use native.Mathlib.Omega.{arith}
use lib.Dec.{leb}
use lib.ListN.{length, get_or}
use lib.Seq.{sets, length-sets}
use Rattle.rules.specs.declared.Answer.{Answer}
use Rattle.rules.specs.Calls.{Line, query, nfm, nfm_start, intervals, bad, typed, answer}
use Rattle.rules.specs.Rules.{ruling, refusal, refused, verdict, changed, obeyed, adds}
use Rattle.rules.specs.State.{Facts}
use Rattle.buffer.specs.Places.{NFM, START}
use Rattle.buffer.specs.Segments.{paste}
use Rattle.buffer.specs.Layout.{rows, facts_of, view}
use Rattle.buffer.specs.Good.{good}
use Rattle.buffer.proofs.Laid.{Laid, laid_good, laid_as, laid_intervals}
use Rattle.buffer.proofs.Sane.{good_sane}
use Rattle.opening.proofs.Copying.{stored as stores}
use Rattle.clock.specs.Call.{call_answer, Says}
use Rattle.clock.proofs.Saying.{moves, says_good, says_refused}
use Rattle.text.proofs.Choice.{absurd_bool}
use Rattle.at.specs.Lines.{read_line}
use Rattle.at.specs.Order.{list_of}
use Rattle.at.specs.Print.{Valid}
use Rattle.at.proofs.RoundTrip.{from_scheduled, accepted, read_accepted}
use Rattle.settings.specs.Settings.{turned, timed_by}
use Rattle.settings.proofs.Settled.{laid_turned}
use Rattle.command.specs.Command.{okay, shown, reply, heard, CommandSays}

-- a line that no check refuses, once it is done
module _ (b : List ℕ) (g : good b ≡ true) (l : Line) (h : refusal (facts_of b) (typed l) ≡ 0) where
  rules_on : ruling (view b) (typed l) ≡ verdict (view b) (typed l)
  unfolding ruling
  rules_on = rw h

  pub says_line : (a : Answer) {x : List ℕ} → verdict (view b) (typed l) ≡ a → refused a ≡ false → Laid x (obeyed l (facts_of b)) (rows (view b).lists) → Says b (typed l) a x
  unfolding changed adds
  says_line a v n d = says_good b g (typed l) a (rules_on ∙ v) (d.is ∙ sym (moves b g (typed l) a (rules_on ∙ v) n (λ k. refl)))

-- NFM and Start Timer, then OK
pub both_parts : (room : List ℕ) (a s : ℕ) → 15 ≤ length room → paste (paste room 0 (shown a s)) 11 okay ≡ paste room 0 (shown a s ++ okay)
both_parts room a s h =
    let first = stores room (shown a s) 0 (omega arith) in
    let long = length-sets room 0 (shown a s) in
    ap (λ (l : List ℕ). paste l 11 okay) (sym first)
    ∙ sym (stores (sets room 0 (shown a s)) okay 11 (omega (arith, long)))
    ∙ stores room (shown a s ++ okay) 0 h

-- NFM and Start Timer of a good state are flags
module _ (b : List ℕ) (g : good b ≡ true) where
  pub nfm_flag : get_or b NFM 0 ≤ 1
  unfolding facts_of
  nfm_flag = (good_sane b g).mode.nfm

  pub start_flag : get_or b START 0 ≤ 1
  unfolding facts_of
  start_flag = (good_sane b g).mode.start

-- a line that is read as an order
abbrev is_bad : Line → Bool
is_bad query = false
is_bad (nfm a) = false
is_bad (nfm_start a s) = false
is_bad (intervals l) = false
is_bad bad = true

module _ (line : List ℕ) (l : Line) (e : read_line line ≡ l) (n : is_bad l ≡ false) where
  no_bad : read_line line ≡ bad → ⊥
  no_bad k = absurd_bool (sym n ∙ ap is_bad (sym e ∙ k))

  taken : (f : Facts) → refusal f (typed l) ≡ 0
  taken f = subst (λ (m : Line). refusal f (typed m) ≡ 0) e (read_accepted line f no_bad)

  is_valid : Valid l
  is_valid = subst Valid e (accepted line no_bad).0

-- a line has at most ten intervals
pub few : (line : List ℕ) → length (list_of (read_line line)) ≤ 10
few line = go (read_line line) refl
  where
    go : (l : Line) → read_line line ≡ l → length (list_of l) ≤ 10
    go query e = omega arith
    go (nfm a) e = omega arith
    go (nfm_start a s) e = omega arith
    go (intervals xs) e = (from_scheduled xs (is_valid line (intervals xs) e refl)).1
    go bad e = omega arith

-- what each kind of line has to show on a good state
module _ (b : List ℕ) (g : good b ≡ true) (line room : List ℕ) where
  abbrev Done : Answer → List ℕ → List ℕ → Type 0
  Done r x y = Says b (typed (read_line line)) r x × (y ≡ paste room 0 (reply (facts_of b) (read_line line)))

  done : (l : Line) → read_line line ≡ l → is_bad l ≡ false → (a : Answer) {x y : List ℕ} → verdict (view b) (typed l) ≡ a → refused a ≡ false
      → Laid x (obeyed l (facts_of b)) (rows (view b).lists) → y ≡ paste room 0 (reply (facts_of b) l) → Done a x y
  done l e n a v r d w = rw e (says_line b g l (taken line l e n (facts_of b)) a v r d, w)

  pub did_query : {y : List ℕ} → read_line line ≡ query → y ≡ paste room 0 (reply (facts_of b) query) → Done (answer 0 15) b y
  unfolding verdict obeyed
  did_query e w = done query e refl (answer 0 15) refl refl (laid_good b g) w

  pub did_nfm : (a : ℕ) {s : ℕ} {x y : List ℕ} → read_line line ≡ nfm a → s ≡ get_or b START 0 → x ≡ turned b a s → y ≡ paste room 0 okay → Done (answer 0 4) x y
  unfolding verdict obeyed facts_of
  did_nfm a e k d w = done (nfm a) e refl (answer 0 4) refl refl (laid_as (laid_turned (laid_good b g) a (get_or b START 0)) (d ∙ ap (turned b a) k)) w

  pub did_nfm_start : (a s : ℕ) {x y : List ℕ} → read_line line ≡ nfm_start a s → x ≡ turned b a s → y ≡ paste room 0 okay → Done (answer 0 4) x y
  unfolding verdict obeyed
  did_nfm_start a s e d w = done (nfm_start a s) e refl (answer 0 4) refl refl (laid_as (laid_turned (laid_good b g) a s) d) w

  pub did_intervals : (l : List ℕ) {x y : List ℕ} → read_line line ≡ intervals l → x ≡ timed_by b l → y ≡ paste room 0 okay → Done (answer 0 4) x y
  unfolding verdict obeyed
  did_intervals l e d w =
      let h : length l ≤ 10 = subst (λ (m : Line). length (list_of m) ≤ 10) e (few line) in
      done (intervals l) e refl (answer 0 4) refl refl (laid_as (laid_intervals (laid_good b g) l h) d) w

  pub did_bad : read_line line ≡ bad → Done (answer 5 0) b room
  unfolding ruling refusal paste
  did_bad e = rw e (says_refused b g (typed bad) (answer 5 0) refl refl, refl)

-- on a good state only what is no order is answered by another number than 0
only_bad : (b : List ℕ) → good b ≡ true → (line : List ℕ) → (call_answer b (typed (read_line line))).number ≢ 0 → read_line line ≡ bad
unfolding call_answer ruling verdict
only_bad b g line h = go (read_line line) refl
  where
    ok : (l : Line) → read_line line ≡ l → is_bad l ≡ false → (verdict (view b) (typed l)).number ≡ 0 → read_line line ≡ bad
    ok l e n v = absurd (h (rw (g, e, taken line l e n (facts_of b)) v))

    go : (l : Line) → read_line line ≡ l → read_line line ≡ bad
    go query e = ok query e refl refl
    go (nfm a) e = ok (nfm a) e refl refl
    go (nfm_start a s) e = ok (nfm_start a s) e refl refl
    go (intervals l) e = ok (intervals l) e refl refl
    go bad e = e

-- the two refusals of the whole call, and a line that is heard
module _ {b line room : List ℕ} where
  pub says_room : leb 16 (length room) ≡ false → CommandSays b line room (answer 1 0) b room
  unfolding heard
  says_room h = record { answered = rw (h, and-false (good b)); left = rw (h, and-false (good b)); written = rw (h, and-false (good b)) }

  pub says_bad : good b ≡ false → CommandSays b line room (answer 1 0) b room
  unfolding heard
  says_bad g = record { answered = rw g; left = rw g; written = rw g }

  pub says_heard : {r : Answer} {x y : List ℕ} → good b ≡ true → leb 16 (length room) ≡ true → Says b (typed (read_line line)) r x
      → y ≡ paste room 0 (reply (facts_of b) (read_line line)) → CommandSays b line room r x y
  unfolding heard
  says_heard g h d w = record { answered = rw (g, h) d.answered; left = rw (g, h) d.left; written = rw (g, h) w }

  -- and what a caller has of a line on a good state: as any call, or nothing where the room is short
  pub heard_says : {r : Answer} {x y : List ℕ} → good b ≡ true → leb 16 (length room) ≡ true → CommandSays b line room r x y → Says b (typed (read_line line)) r x
  unfolding heard
  heard_says g h s = record { answered = s.answered ∙ rw (g, h); left = s.left ∙ rw (g, h) }

  pub unheard_left : {r : Answer} {x y : List ℕ} → leb 16 (length room) ≡ false → CommandSays b line room r x y → x ≡ b
  unfolding heard
  unheard_left h s = s.left ∙ rw (h, and-false (good b))

  -- a refused line leaves both
  pub refused_line : {r : Answer} {x y : List ℕ} → CommandSays b line room r x y → r.number ≢ 0 → (x ≡ b) × (y ≡ room)
  unfolding heard
  refused_line {r} {x} {y} s h = go (good b) refl (leb 16 (length room)) refl
    where
      go : (g : Bool) → good b ≡ g → (k : Bool) → leb 16 (length room) ≡ k → (x ≡ b) × (y ≡ room)
      go false e k d = (s.left ∙ rw e, s.written ∙ rw e)
      go true e false d = (s.left ∙ rw (e, d), s.written ∙ rw (e, d))
      go true e true d =
          let p = did_bad b e line room (only_bad b e line (λ z. h (ap (λ (a : Answer). a.number) (heard_says e d s).answered ∙ z))) in
          (s.left ∙ rw (e, d) (sym p.0.left), s.written ∙ rw (e, d) (sym p.1))
