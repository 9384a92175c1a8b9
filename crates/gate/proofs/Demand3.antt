-- Demand 3 on the buffer: from any accepted opening or turning, and from any good buffer, whatever
-- is done with the buffer after it, openings, turnings and refused calls among it, the next call is
-- answered as the rules answer over the record since the last one accepted. Assumes nothing.
use mathlib.Core.Path.{◌≡◌, refl, sym, ap, ◌∙◌}
use mathlib.Core.Bool.{Bool, true, false, cond, ◌&&◌, false≢true}
use mathlib.Core.List.{List, [], ◌∷◌, ◌++◌}
use Prim.Native.Nat.{ℕ, ◌<◌}
use lib.Dec.{leb, eqb}
use lib.ListN.{length}
use borrow.Author.Tests.{eq-eqb}
use Rattle.rules.specs.declared.Answer.{Answer}
use Rattle.rules.specs.Calls.{Call, timed, typed, Entry, entry}
use Rattle.rules.specs.declared.Event.TheVariants.{Ask as ask, Outcome as outcome}
use Rattle.rules.specs.declared.Outcome.TheVariants.{Rejected as rejected}
use Rattle.rules.specs.Tables.{highest_time, among, limiting, permanent}
use Rattle.rules.specs.Record.{due_now}
use Rattle.rules.specs.Rules.{ruling, step, held, held_answers}
use Rattle.rules.specs.State.{State}
use Rattle.rules.specs.Told.{tells, ruled, entered, onward, ruled_all, told}
use Rattle.rules.specs.Demand3.{Again, NoReset, InTheWindow}
use Rattle.rules.proofs.Demand3.{Starts, as_the_rules, whole, demand_3, held_told, held_answers_ruled}
use Rattle.rules.proofs.Due.{not_dead}
use Rattle.rules.proofs.Again.{again}
use Rattle.rules.proofs.RecordTells.{known_tells}
use Rattle.rules.proofs.Newest.{Sound, known_sound}
use Rattle.buffer.specs.Places.{SIZE}
use Rattle.buffer.specs.Layout.{lay, view}
use Rattle.buffer.specs.Good.{good, valid}
use Rattle.buffer.proofs.Goodness.{good_shape, good_lay, view_lay_valid, lay_view_good, valid_view}
use Rattle.buffer.proofs.Keep.{keep}
use Rattle.buffer.proofs.Starting.{valid_starts}
use Rattle.clock.specs.Call.{call_answer, call_after, Says}
use Rattle.clock.proofs.Saying.{after_is, answer_is}
use Rattle.reasons.specs.Why.{reasons, why_of}
use Rattle.reasons.proofs.Record.{reasons_same}
use Rattle.opening.specs.Open.{Order, Typed, settings, files, open_number, given_by, open_after, OpenSays}
use Rattle.opening.proofs.Opened.{opened_valid}
use Rattle.turning.specs.Turning.{good1, turned, turns, TurnSays}
use Rattle.turning.proofs.Turned.{turned_good, view_turned, accepted}
use Rattle.at.specs.Lines.{read_line}
use Rattle.command.specs.Command.{CommandSays}
use Rattle.command.proofs.Lined.{heard_says, unheard_left}
use Rattle.gate.specs.History.{Doing, opened, turned as turned-into, called, obeyed, saved, Run, done, then, accepts, Since, begun, heard, since, recorded, record_since}
use Rattle.gate.specs.Demands.{AskedAgain, OnTheBuffer}

-- the buffer b holds what the calls since the start leave, and they were answered as what it held
-- says
record Kept (h : Since) (b : List ℕ) : Type 0 where
  starts : Starts h.given
  valid : valid (held h.given h.before) ≡ true
  is : b ≡ lay (held h.given h.before)
  answered : h.answers ≡ held_answers h.given h.before

held_append : (v : State) (cs : List Call) (c : Call) → held v (cs ++ (c ∷ [])) ≡ step (held v cs) c
held_append v [] c = refl
held_append v (d ∷ cs) c = held_append (step v d) cs c

answers_append : (v : State) (cs : List Call) (c : Call) → held_answers v (cs ++ (c ∷ [])) ≡ held_answers v cs ++ (ruling (held v cs) c ∷ [])
answers_append v [] c = refl
answers_append v (d ∷ cs) c = ap (λ (l : List Answer). ruling v d ∷ l) (answers_append (step v d) cs c)

-- ---- A valid state laid out

module _ (v : State) (h : valid v ≡ true) (c : Call) where
  pub answer_lay : call_answer (lay v) c ≡ ruling v c
  answer_lay = answer_is (lay v) (good_lay v h) c (ruling (view (lay v)) c) refl ∙ ap (λ (w : State). ruling w c) (view_lay_valid v h)

  pub after_lay : call_after (lay v) c ≡ lay (step v c)
  after_lay = after_is (lay v) (good_lay v h) c (ruling (view (lay v)) c) refl ∙ ap (λ (w : State). lay (step w c)) (view_lay_valid v h)

module _ (h : Since) (b : List ℕ) (k : Kept h b) where
  now : State
  now = held h.given h.before

  kept_good : good b ≡ true
  kept_good = rw k.is (good_lay (held h.given h.before) k.valid)

  kept_answer : (c : Call) → call_answer b c ≡ ruling (held h.given h.before) c
  kept_answer c = ap (λ (y : List ℕ). call_answer y c) k.is ∙ answer_lay (held h.given h.before) k.valid c

  kept_called : (c : Call) (r : Answer) (x : List ℕ) → Says b c r x → Kept (heard h c r) x
  unfolding now
  kept_called c r x s = record {
    starts = k.starts;
    valid = rw (held_append h.given h.before c) (keep now k.valid c);
    is =
        s.left ∙ ap (λ (y : List ℕ). call_after y c) k.is ∙ after_lay now k.valid c
        ∙ ap (λ (w : State). lay w) (sym (held_append h.given h.before c));
    answered = rw (k.answered, s.answered, kept_answer c) (sym (answers_append h.given h.before c));
  }

-- ---- Opening

module _ (b : List ℕ) (long : length b ≡ SIZE) (o : Order) where
  number_is : open_number b o ≡ cond (settings o && files o) (cond (leb o.time highest_time) 0 3) 2
  unfolding open_number
  number_is = rw (eq-eqb (length b) SIZE long)

  number_ok : accepts o ≡ true → open_number b o ≡ 0
  unfolding accepts
  number_ok h = number_is ∙ go (settings o && files o) (leb o.time highest_time) h
    where
      go : (x y : Bool) → (x && y) ≡ true → ◌≡◌ {A = ℕ} (cond x (cond y 0 3) 2) 0
      go true true e = refl
      go true false e = absurd (false≢true e)
      go false y e = absurd (false≢true e)

  number_no : accepts o ≡ false → eqb (open_number b o) 0 ≡ false
  unfolding accepts
  number_no h = rw number_is (go (settings o && files o) (leb o.time highest_time) h)
    where
      go : (x y : Bool) → (x && y) ≡ false → eqb (cond x (cond y 0 3) 2) 0 ≡ false
      go true true e = e
      go true false e = refl
      go false y e = refl

opened_kept : (b : List ℕ) (o : Order) (r : Answer) (x : List ℕ) → Typed o → open_number b o ≡ 0 → OpenSays b o r x → Kept (begun (given_by o)) x
unfolding open_after
opened_kept b o r x t z s = record {
  starts = valid_starts (given_by o) (opened_valid b o z t);
  valid = opened_valid b o z t;
  is = s.left ∙ rw (eq-eqb (open_number b o) 0 z);
  answered = refl;
}

-- ---- Any doings

kept_as : {h : Since} {b x : List ℕ} → Kept h b → x ≡ b → Kept h x
kept_as k e = record { starts = k.starts; valid = k.valid; is = e ∙ k.is; answered = k.answered }

-- after an opening, accepted or not
opening_kept : (h : Since) (b : List ℕ) (o : Order) (r : Answer) (x : List ℕ) → Kept h b → Typed o → OpenSays b o r x → Kept (cond (accepts o) (begun (given_by o)) h) x
unfolding open_after
opening_kept h b o r x k t s = by (accepts o) refl
  where
    long : length b ≡ SIZE
    long = (good_shape b (kept_good h b k)).long

    by : (a : Bool) → accepts o ≡ a → Kept (cond a (begun (given_by o)) h) x
    by true e = opened_kept b o r x t (number_ok b long o e) s
    by false e = kept_as k (s.left ∙ rw (number_no b long o e))

-- what a good buffer of version 1 is turned into
version_1_kept : (old : List ℕ) → good1 old ≡ true → {x : List ℕ} → x ≡ turned old → Kept (begun (view old)) x
version_1_kept old h e =
    let v : valid (view old) ≡ true = rw (view_turned old h) at (valid_view (turned old) (turned_good old h)) in
    record {
      starts = valid_starts (view old) v;
      valid = v;
      is = e ∙ sym (lay_view_good (turned old) (turned_good old h)) ∙ ap (λ (w : State). lay w) (view_turned old h);
      answered = refl;
    }

-- after a turning, accepted or not
turning_kept : (h : Since) (b old : List ℕ) (r : Answer) (x : List ℕ) → Kept h b → TurnSays old b r x → Kept (cond (good1 old) (begun (view old)) h) x
unfolding turns
turning_kept h b old r x k s = by (good1 old) refl
  where
    long : length b ≡ SIZE
    long = (good_shape b (kept_good h b k)).long

    by : (a : Bool) → good1 old ≡ a → Kept (cond a (begun (view old)) h) x
    by true e = version_1_kept old e (s.left ∙ rw (e, eq-eqb (length b) SIZE long))
    by false e = kept_as k (s.left ∙ rw e)

-- after an AT line, read or not
typing_kept : (h : Since) (b line room : List ℕ) (r : Answer) (x y : List ℕ) → Kept h b → CommandSays b line room r x y
    → Kept (cond (leb 16 (length room)) (heard h (typed (read_line line)) r) h) x
typing_kept h b line room r x y k s = by (leb 16 (length room)) refl
  where
    by : (a : Bool) → leb 16 (length room) ≡ a → Kept (cond a (heard h (typed (read_line line)) r) h) x
    by true e = kept_called h b k (typed (read_line line)) r x (heard_says (kept_good h b k) e s)
    by false e = kept_as k (unheard_left e s)

run_kept : (h : Since) {b x : List ℕ} {ds : List Doing} {rs : List Answer} → Kept h b → Run b ds rs x → Kept (since h ds rs) x
run_kept h k done = k
run_kept h {b = b} k (then (called {c = c} {r = r} {x = y} s) q) = run_kept (heard h c r) (kept_called h b k c r y s) q
run_kept h {b = b} k (then (obeyed {line = line} {room = room} {r = r} {x = y} {y = z} s) q) = run_kept _ (typing_kept h b line room r y z k s) q
run_kept h k (then (saved s) q) = run_kept h (kept_as k s.left) q
run_kept h {b = b} k (then (turned-into {old = old} {r = r} {x = y} s) q) = run_kept _ (turning_kept h b old r y k s) q
run_kept h {b = b} k (then (opened {o = o} {r = r} {x = y} t s) q) = run_kept _ (opening_kept h b o r y k t s) q

-- ---- The theorem

tells_sound : (g : State) → Starts g → (cs : List Call) → Sound (tells g (told g cs))
tells_sound g b cs = rw (← known_tells g b.begins cs) (known_sound g b.sound cs)

told_why : (h : Since) (x : List ℕ) → Kept h x → (t q : ℕ) → why_of x t q ≡ reasons (tells h.given (told h.given h.before)) t q
unfolding why_of
told_why h x k t q =
    let v = held h.given h.before in
    ap (λ (y : List ℕ). why_of y t q) k.is
    ∙ rw (good_lay v k.valid) (ap (λ (w : State). reasons w t q) (view_lay_valid v k.valid))
    ∙ ap (λ (w : State). reasons w t q) (held_told h.given k.starts h.before)
    ∙ reasons_same (tells h.given (told h.given h.before)) (tells_sound h.given k.starts h.before) t q

-- the record of what the rules answer is the rules' own
recorded_told : (g : State) (past : List Entry) (cs : List Call) → recorded past cs (ruled_all g past cs) ≡ onward g past cs
recorded_told g past [] = refl
recorded_told g past (c ∷ cs) = recorded_told g (entered c (ruled g past c) past) cs

module _ (h : Since) (x : List ℕ) (k : Kept h x) where
  kept_answers : h.answers ≡ ruled_all h.given [] h.before
  kept_answers = k.answered ∙ held_answers_ruled h.given k.starts h.before

  kept_record : record_since h ≡ told h.given h.before
  kept_record = rw kept_answers (recorded_told h.given [] h.before)

  kept_ruled : (c : Call) → call_answer x c ≡ ruled h.given (told h.given h.before) c
  kept_ruled c = kept_answer h x k c ∙ (demand_3 h.given k.starts h.before).as_the_record c

module _ (h : Since) (x : List ℕ) (k : Kept h x) (t q : ℕ) (a : Answer) (y : List ℕ) (s : Says x (timed t (ask q)) a y) where
  is : a ≡ ruled h.given (told h.given h.before) (timed t (ask q))
  is = s.answered ∙ kept_ruled h x k (timed t (ask q))

  then_ruled : (u : ℕ) → call_answer y (timed u (ask q)) ≡ ruled h.given (told h.given (h.before ++ (timed t (ask q) ∷ []))) (timed u (ask q))
  then_ruled u = kept_ruled (heard h (timed t (ask q)) a) y (kept_called h x k (timed t (ask q)) a y s) (timed u (ask q))

  asked_again : among a.number limiting ≡ true → AskedAgain t q a y
  asked_again m =
      let blocked : Again h.given h.before t q a = rw (← is) at (again h.given k.starts h.before t q (rw is at m)) in
      record {
        too_early = λ u r z p l e n. p.answered ∙ then_ruled u ∙ blocked.too_early u l e n;
        in_time = λ u r z p l. rw (p.answered, then_ruled u) (blocked.in_time u l);
      }

on_the_buffer : (h : Since) (x : List ℕ) → Kept h x → OnTheBuffer h x
on_the_buffer h x k =
    let same = kept_ruled h x k in
    let told-so = kept_record h x k in
    record {
      answers = kept_answers h x k;
      as_told = told-so;
      next = λ c r y s. rw told-so (s.answered ∙ same c);
      next_line = λ line room r y z e s. rw told-so ((heard_says (kept_good h x k) e s).answered ∙ same (typed (read_line line)));
      demand = rw told-so (as_the_rules h.given k.starts h.before (λ c. call_answer x c) same);
      whole = λ other d c. whole h.given k.starts h.before other (rw told-so at d) c ∙ sym (same c);
      again = λ t q a y s m. asked_again h x k t q a y s m;
      places = rw told-so (k.is ∙ ap (λ (w : State). lay w) (held_told h.given k.starts h.before));
      stays_good = kept_good h x k;
      why = λ t q. rw told-so (told_why h x k t q);
    }

-- DEMAND 3: a buffer of any contents is opened by o, answered 0, and then anything is done with it
pub demand_3_on_the_buffer : (b : List ℕ) (o : Order) (r : Answer) (y : List ℕ) → Typed o → OpenSays b o r y → r.number ≡ 0
    → (ds : List Doing) (rs : List Answer) (x : List ℕ) → Run y ds rs x → OnTheBuffer (since (begun (given_by o)) ds rs) x
demand_3_on_the_buffer b o r y t s z ds rs x q =
    let number : open_number b o ≡ 0 = ap (λ (a : Answer). a.number) (sym s.answered) ∙ z in
    on_the_buffer _ x (run_kept (begun (given_by o)) (opened_kept b o r y t number s) q)

-- and from any good buffer on, however it came to be: the record begins with what it holds
pub demand_3_from_a_good_buffer : (b : List ℕ) → good b ≡ true
    → (ds : List Doing) (rs : List Answer) (x : List ℕ) → Run b ds rs x → OnTheBuffer (since (begun (view b)) ds rs) x
demand_3_from_a_good_buffer b h ds rs x q =
    let v = valid_view b h in
    on_the_buffer _ x (run_kept (begun (view b)) (record { starts = valid_starts (view b) v; valid = v; is = sym (lay_view_good b h); answered = refl }) q)

-- and from a buffer of version 1 on, which is turned, answered 0: the record begins with what it
-- holds, and the limits count the permits that it held
pub demand_3_from_version_1 : (old b : List ℕ) (r : Answer) (y : List ℕ) → TurnSays old b r y → r.number ≡ 0
    → (ds : List Doing) (rs : List Answer) (x : List ℕ) → Run y ds rs x → OnTheBuffer (since (begun (view old)) ds rs) x
demand_3_from_version_1 old b r y s z ds rs x q =
    let a = accepted s z in
    on_the_buffer _ x (run_kept (begun (view old)) (version_1_kept old a.0 a.1) q)

-- ---- The timed reset

-- on a buffer whose record has a permanent rejection at p, where no reset was due before it and
-- nothing has reset the module since, the reset is ordered in T1's window
pub reset_in_the_window : (h : Since) (x : List ℕ) → OnTheBuffer h x → (past later : List Entry) (p s cause second column : ℕ) (a : Answer)
    → record_since h ≡ later ++ (entry (timed p (outcome s (rejected cause second column))) a ∷ past)
    → permanent column cause ≡ true → 0 < h.given.facts.opening.T1 → h.given.facts.opening.rpm ≡ 1 → due_now h.given past ≡ 0 → NoReset later
    → InTheWindow h.given (record_since h) p (λ c. call_answer x c)
reset_in_the_window h x o past later p s cause second column a e lasts above on none quiet =
    rw e (not_dead h.given past p s cause second column a lasts above on none later quiet (λ c. call_answer x c) (rw e at o.demand.direct))
