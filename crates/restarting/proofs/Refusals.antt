-- What is refused changes nothing, 6 and 7 too; what is accepted is in the journal; a record's
-- meaning is the call that the gate writes so; and restart allows one result only. Assumes nothing.
use mathlib.Core.Path.{◌≡◌, refl, sym, ap, ◌∙◌, subst}
use mathlib.Core.Bool.{Bool, true, false, cond, not, ◌&&◌, false≢true}
use mathlib.Core.List.{List, [], ◌∷◌, ◌++◌}
use mathlib.Core.Logic.{◌≢◌}
use Rattle.std.specs.Prelude.{Option, Some, None}
use Rattle.std.proofs.lemmas.Option.{none-some, same_Some}
use Prim.Native.Nat.{ℕ}
use native.Mathlib.Omega.{arith}
use Rattle.rules.specs.declared.Answer.{Answer}
use Rattle.rules.specs.Calls.{Call, answer, Entry}
use Rattle.rules.specs.declared.Event.{Event}
use Rattle.rules.specs.State.{State}
use Rattle.rules.specs.Rules.{refused}
use Rattle.rules.specs.Direct.{Given, permitted, on_grant, on_drop, on_tick, on_line, out_of_range, out_of_time, wrong_standing, not_as_above, held, blocked, ordered, backed_off, in_its_place, other_action}
use Rattle.rules.proofs.Checks.{action_low}
use Rattle.rules.proofs.Direct.{limit_number}
use Rattle.buffer.specs.Good.{good}
use Rattle.clock.specs.Call.{call_answer, call_after}
use Rattle.clock.proofs.Saying.{says_bad}
use Rattle.gate.specs.History.{done as ends}
use Rattle.gate.proofs.Demand3.{demand_3_from_a_good_buffer}
use Rattle.journal.specs.Area.{Restarted, refused as None-found, done}
use Rattle.records.specs.Records.{Noted, times, types, call_of, parsed, same}
use Rattle.records.proofs.Records.{same_eq}
use Rattle.keeping.specs.Keeping.{answer_at, record_at, sized, roomy, appends, journal_answer, heard, Journals, JournalsLine}
use Rattle.noting.proofs.Lining.{line_journals}
use Rattle.restarting.specs.Restarting.{writes, step_by, step, fits, judged, RestartSays}
use Rattle.restarting.specs.Lives.{Wrote, wrote, Sized, plus, Lived, called, obeyed}

-- ---- No plain call answers 6

not_six : {g : State} {past : List Entry} {c : Call} {a : Answer} → Given g past c a → a.number ≢ 6
not_six (permitted x y z) e = absurd (omega arith)
not_six (on_grant x) e = absurd (omega arith)
not_six (on_drop x) e = absurd (omega arith)
not_six (on_tick x y) e = absurd (omega arith)
not_six (on_line x) e = absurd (omega arith)
not_six (out_of_range x) e = absurd (omega arith)
not_six (out_of_time x y) e = absurd (omega arith)
not_six (wrong_standing x y z) e = absurd (omega arith)
not_six (not_as_above x) e = absurd (omega arith)
not_six (held x y z) e = absurd (omega arith)
not_six {g} {past} (blocked x y l o p u) e = absurd (omega (arith, (limit_number g past l).0, e))
not_six (ordered x y) e = absurd (omega arith)
not_six (backed_off x y z) e = absurd (omega arith)
not_six (in_its_place x y z) e = absurd (omega arith)
not_six (other_action {cause = cause} {second = second} {column = column} x y) e = absurd (omega (arith, action_low column cause second, e))

pub never_six : (b : List ℕ) (c : Call) → (call_answer b c).number ≢ 6
never_six b c = go (good b) refl
  where
    go : (y : Bool) → good b ≡ y → (call_answer b c).number ≢ 6
    go true g = not_six ((demand_3_from_a_good_buffer b g [] [] b ends).demand.direct.given c)
    go false g = rw (← (says_bad b c g).answered) (λ z. absurd (omega arith))

-- ---- A journaled call, by its number

module _ {b a : List ℕ} {n : Noted} {r : Answer} {x y : List ℕ} (j : Journals b a n r x y) where
  -- accepted, it is in the journal
  pub accepted_kept : refused r ≡ false → r.number ≢ 6 → appends b a n ≡ true
  unfolding appends journal_answer
  accepted_kept h s = go (sized a) (refused (answer_at b n)) (roomy a) refl refl refl
    where
      go : (p q t : Bool) → sized a ≡ p → refused (answer_at b n) ≡ q → roomy a ≡ t → (p && (not q && t)) ≡ true
      go true false true d e f = refl
      go true false false d e f = let z : r ≡ answer 6 0 = j.answered ∙ rw (d, e, f) in absurd (s (ap (λ (w : Answer). w.number) z))
      go true true t d e f = let z : r ≡ answer_at b n = j.answered ∙ rw (d, e) in absurd (false≢true (sym h ∙ ap refused z ∙ e))
      go false q t d e f = let z : r ≡ answer 1 0 = j.answered ∙ rw d in absurd (false≢true (sym h ∙ ap refused z))

  -- refused, it changes neither the state nor the area; nor does 6
  stayed : (appends b a n ≡ true → ⊥) → (x ≡ b) × (y ≡ a)
  stayed h = go (appends b a n) refl
    where
      go : (p : Bool) → appends b a n ≡ p → (x ≡ b) × (y ≡ a)
      go true e = absurd (h e)
      go false e = (j.left ∙ rw e, j.kept ∙ rw e)

  pub refused_stays : refused r ≡ true → (x ≡ b) × (y ≡ a)
  unfolding appends journal_answer
  refused_stays h = stayed (λ k. go (sized a) (refused (answer_at b n)) (roomy a) refl refl refl k)
    where
      go : (p q t : Bool) → sized a ≡ p → refused (answer_at b n) ≡ q → roomy a ≡ t → (p && (not q && t)) ≡ true → ⊥
      go true false true d e f k = let z : r ≡ answer_at b n = j.answered ∙ rw (d, e, f) in false≢true (sym e ∙ ap refused (sym z) ∙ h)
      go true false false d e f k = false≢true k
      go true true t d e f k = false≢true k
      go false q t d e f k = false≢true k

  pub full_stays : r.number ≡ 6 → (x ≡ b) × (y ≡ a)
  unfolding appends journal_answer
  full_stays h = stayed (λ k. go (sized a) (refused (answer_at b n)) (roomy a) refl refl refl k)
    where
      go : (p q t : Bool) → sized a ≡ p → refused (answer_at b n) ≡ q → roomy a ≡ t → (p && (not q && t)) ≡ true → ⊥
      go true false true d e f k =
          let z : r ≡ answer_at b n = j.answered ∙ rw (d, e, f) in
          never_six b (call_of n) (ap (λ (w : Answer). w.number) (sym z) ∙ h)
      go true false false d e f k = false≢true k
      go true true t d e f k = false≢true k
      go false q t d e f k = false≢true k

-- ---- Every call that has returned

-- a call that has returned and was not refused is the newest of the journal's calls, with the
-- answer that was given
module _ {image s a x y : List ℕ} {ns : List Noted} {rs : List Answer} (h : Lived image s a ns rs) (r : Answer) (ok : refused r ≡ false) (room : r.number ≢ 6) where
  pub returned : (t : ℕ) (e : Event) → Sized (times t e) → Journals s a (times t e) r x y → Lived image x y (ns ++ (times t e ∷ [])) (rs ++ (r ∷ []))
  returned t e w j = rw (accepted_kept j ok room) at (called t e r h w j)

  pub returned_line : (line space z : List ℕ) → JournalsLine s a line space r x y z → Lived image x y (ns ++ (types line ∷ [])) (rs ++ (r ∷ []))
  returned_line line space z j = go (heard space) refl (obeyed line space r h j)
    where
      go : (b : Bool) → heard space ≡ b
          → Lived image x y (plus ns (b && appends s a (types line)) (types line)) (plus rs (b && appends s a (types line)) r)
          → Lived image x y (ns ++ (types line ∷ [])) (rs ++ (r ∷ []))
      go true e l = rw (accepted_kept (line_journals j e) ok room) at l
      go false e l = let z : r ≡ answer 1 0 = j.answered ∙ rw e in absurd (false≢true (sym ok ∙ ap refused z))

-- ---- Restart

pub one_result : {i a s : List ℕ} {r r' : Answer} {y y' x x' : List ℕ} → RestartSays i a s r y x → RestartSays i a s r' y' x' → (r ≡ r') × (y ≡ y') × (x ≡ x')
one_result p q = (p.answered ∙ sym q.answered, p.kept ∙ sym q.kept, p.left ∙ sym q.left)

is_done : Restarted (List ℕ) → Bool
is_done None-found = false
is_done (done t c) = true

judged_off : (i a s : List ℕ) → fits a s ≡ false → judged i a s ≡ None-found
unfolding judged
judged_off i a s d = rw d

-- refused, it changes neither the area nor the state
pub restart_stays : {i a s : List ℕ} {r : Answer} {y x : List ℕ} → RestartSays i a s r y x → r.number ≢ 0 → (y ≡ a) × (x ≡ s)
unfolding is_done
restart_stays {i} {a} {s} {r} {y} {x} w h = go (fits a s) (judged i a s) refl refl
  where
    go : (p : Bool) (o : Restarted (List ℕ)) → fits a s ≡ p → judged i a s ≡ o → (y ≡ a) × (x ≡ s)
    go p None-found d e = (w.kept ∙ rw e, w.left ∙ rw e)
    go true (done t c) d e = let z : r ≡ answer 0 0 = w.answered ∙ rw (d, e) in absurd (h (ap (λ (v : Answer). v.number) z))
    go false (done t c) d e = absurd (false≢true (ap is_done (sym (judged_off i a s d) ∙ e)))

-- ---- A record's meaning

-- where a record has a meaning, the gate writes it there, of a call that it accepts
pub step_wrote : (b r x : List ℕ) → step b r ≡ Some x → Wrote b r x
unfolding step step_by writes
step_wrote b r x e = go (parsed r) e
  where
    by : (n : Noted) (p q : Bool) → same (record_at b n) r ≡ p → refused (answer_at b n) ≡ q → cond (p && not q) (Some (call_after b (call_of n))) None ≡ Some x → Wrote b r x
    by n true false f g d = subst (λ (y : List ℕ). Wrote b r y) (same_Some _ _ d) (wrote n g (sym (same_eq (record_at b n) r f)))
    by n true true f g d = absurd (none-some _ d)
    by n false q f g d = absurd (none-some _ d)

    go : (o : Option Noted) → step_by b r o ≡ Some x → Wrote b r x
    go None d = absurd (none-some _ d)
    go (Some n) d = by n (same (record_at b n) r) (refused (answer_at b n)) refl refl d
