-- THE THEOREM: whatever life a state with a journal has had, calls, cuts at any byte and restarts,
-- its state is the one after the plain calls of its journal, and restart finds it. So demand 3's
-- record runs across restarts. Assumes nothing.
use mathlib.Core.Path.{◌≡◌, refl, ap, ◌∙◌}
use mathlib.Core.Bool.{Bool, true, false, not, ◌&&◌, false≢true, cond}
use mathlib.Core.List.{List, [], ◌∷◌, ◌++◌, map, append-nil}
use Prim.Native.Nat.{ℕ, ◌<◌}
use native.Mathlib.Omega.{arith}
use lib.Dec.{ltb}
use lib.ListN.{length, length-replicate}
use borrow.Author.Tests.{eq-eqb, ltb-true, lt-ltb, le-ltb}
use Rattle.rules.specs.declared.Answer.{Answer}
use Rattle.rules.specs.Calls.{Call, answer}
use Rattle.rules.specs.Rules.{refused}
use Rattle.rules.specs.Told.{ruled}
use Rattle.buffer.specs.Places.{SIZE}
use Rattle.buffer.specs.Layout.{view}
use Rattle.buffer.specs.Good.{good}
use Rattle.clock.specs.Call.{call_after, Says}
use Rattle.opening.specs.Open.{Order, Typed, given_by, OpenSays}
use Rattle.gate.specs.History.{Doing, calls, called as calling, Run, done as ends, then, begun as from, Since, since, record_since}
use Rattle.gate.specs.Demands.{OnTheBuffer}
use Rattle.gate.proofs.Demand3.{demand_3_on_the_buffer, demand_3_from_a_good_buffer}
use Rattle.journal.specs.Area.{AREA, SLOTS, slots, free, CutAppend, Dips, done, restart}
use Rattle.journal.proofs.Slots.{all_erased}
use Rattle.journal.proofs.Theorems.{dips, cut_append}
use Rattle.journal.proofs.History.{Live, begin, taken, live, restarted, cut_now}
use Rattle.records.specs.Records.{Noted, times, types, call_of, Fits}
use Rattle.keeping.specs.Keeping.{answer_at, record_at, sized, roomy, appends, appended, journal_answer, heard, Journals}
use Rattle.noting.proofs.Lining.{accepted_fits, line_journals, line_stays}
use Rattle.restarting.specs.Restarting.{step, judged, RestartSays}
use Rattle.restarting.specs.Lives.{Sized, plus, Lived, begun, called, obeyed, cut, again, plain, Finds, Stands}
use Rattle.restarting.proofs.Stepping.{record_of, step_call}
use Rattle.restarting.proofs.Recovering.{judged_is}

module _ (image : List ℕ) (ok : good image ≡ true) where
  -- what an append needs
  record Goes (s a : List ℕ) (n : Noted) : Type 0 where
    long : sized a ≡ true
    accepted : refused (answer_at s n) ≡ false
    room : free (slots a) < SLOTS

  goes : (s a : List ℕ) (n : Noted) → appends s a n ≡ true → Goes s a n
  unfolding appends
  goes s a n h = go (sized a) (refused (answer_at s n)) (roomy a) refl refl refl h
    where
      go : (p q t : Bool) → sized a ≡ p → refused (answer_at s n) ≡ q → roomy a ≡ t → (p && (not q && t)) ≡ true → Goes s a n
      go true false true e f g z = record { long = e; accepted = f; room = ltb-true (free (slots a)) SLOTS g }
      go true false false e f g z = absurd (false≢true z)
      go true true t e f g z = absurd (false≢true z)
      go false q t e f g z = absurd (false≢true z)

  -- what is appended has the plain call's answer
  answer_goes : (s a : List ℕ) (n : Noted) → appends s a n ≡ true → journal_answer s a n ≡ answer_at s n
  unfolding journal_answer
  answer_goes s a n h = let g = goes s a n h in rw (g.long, g.accepted, lt-ltb (free (slots a)) SLOTS g.room)

  -- it fits a record: by C's types, and a line that is accepted is not too long
  fitting : (s : List ℕ) (n : Noted) → Sized n → refused (answer_at s n) ≡ false → Fits n
  fitting s (times t e) w h = w
  fitting s (types l) w h = accepted_fits s l h

  -- ---- What restart finds is what the calls left

  -- a restart that finds t and leaves d
  found : (c t d : List ℕ) → length c ≡ AREA → restart step image c ≡ done t d → Finds image c t d
  found c t d lc e = record { finds = λ z lz r x y w. by z lz r x y w (judged_is image c z lc lz ok ∙ e) }
    where
      by : (z : List ℕ) → length z ≡ SIZE → (r : Answer) (x y : List ℕ) → RestartSays image c z r y x → judged image c z ≡ done t d
          → (r ≡ answer 0 0) × (x ≡ t) × (y ≡ d)
      by z lz r x y w q = (w.answered ∙ rw (eq-eqb (length c) AREA lc, eq-eqb (length z) SIZE lz, q), w.left ∙ rw q, w.kept ∙ rw q)

  -- a call that is appended, cut or not
  module _ {s a : List ℕ} (n : Noted) (l : Live step image s a) (w : Sized n) (h : appends s a n ≡ true) where
    g : Goes s a n
    g = goes s a n h

    f : Fits n
    f = fitting s n w g.accepted

    went : Live step image (call_after s (call_of n)) (appended s a n)
    went = taken l (record_of s n f) g.room (step_call s n f g.accepted)

    module _ {b c : List ℕ} (k : CutAppend a (free (slots a)) (record_at s n) b) (d : Dips b c) where
      restart_cut : restart step image c ≡ cond (ltb k.stores 128) (done s a) (done (call_after s (call_of n)) (appended s a n))
      restart_cut = cut_now step image l (record_of s n f) g.room (step_call s n f g.accepted) k d

      long_cut : length c ≡ AREA
      long_cut = (dips (cut_append a (live step image l).0 g.room (record_at s n) (record_of s n f) b k) d).long

      finds_before : ltb k.stores 128 ≡ true → Finds image c s a
      finds_before e = found c s a long_cut (restart_cut ∙ rw e)

      finds_after : ltb k.stores 128 ≡ false → Finds image c (call_after s (call_of n)) (appended s a n)
      finds_after e = found c (call_after s (call_of n)) (appended s a n) long_cut (restart_cut ∙ rw e)

  -- ---- The run of plain calls

  record Has (s a : List ℕ) (ns : List Noted) (rs : List Answer) : Type 0 where
    lives : Live step image s a
    ran : Run image (map plain ns) rs s

  run_more : {b x y : List ℕ} {ds : List Doing} {rs : List Answer} (c : Call) (r : Answer) → Run b ds rs x → Says x c r y
      → Run b (ds ++ (calls c ∷ [])) (rs ++ (r ∷ [])) y
  run_more c r ends s = then (calling s) ends
  run_more c r (then d q) s = then d (run_more c r q s)

  map_more : (ns : List Noted) (n : Noted) → map plain (ns ++ (n ∷ [])) ≡ map plain ns ++ (plain n ∷ [])
  map_more [] n = refl
  map_more (m ∷ ns) n = ap (λ (l : List Doing). plain m ∷ l) (map_more ns n)

  -- one call more
  more : {s a x y : List ℕ} {ns : List Noted} {rs : List Answer} (n : Noted) (r : Answer) → Has s a ns rs → Sized n → appends s a n ≡ true
      → r ≡ answer_at s n → x ≡ call_after s (call_of n) → y ≡ appended s a n → Has x y (ns ++ (n ∷ [])) (rs ++ (r ∷ []))
  more {ns = ns} n r t w h e p q = record {
    lives = rw (p, q) (went n t.lives w h);
    ran = rw (map_more ns n) (run_more (call_of n) r t.ran (record { answered = e; left = p }));
  }

  -- none
  same : {s a x y : List ℕ} {ns : List Noted} {rs : List Answer} → Has s a ns rs → x ≡ s → y ≡ a → Has x y (ns ++ []) (rs ++ [])
  same {ns = ns} {rs = rs} t p q = rw (append-nil ns, append-nil rs, p, q) t

  -- a call that has returned
  module _ {s a x y : List ℕ} {ns : List Noted} {rs : List Answer} (n : Noted) (r : Answer) (t : Has s a ns rs) (w : Sized n) (j : Journals s a n r x y) where
    returned : Has x y (plus ns (appends s a n) n) (plus rs (appends s a n) r)
    returned = go (appends s a n) refl
      where
        go : (b : Bool) → appends s a n ≡ b → Has x y (plus ns b n) (plus rs b r)
        go true e = more n r t w e (j.answered ∙ answer_goes s a n e) (j.left ∙ rw e) (j.kept ∙ rw e)
        go false e = same t (j.left ∙ rw e) (j.kept ∙ rw e)

  -- ---- Any life

  has : {s a : List ℕ} {ns : List Noted} {rs : List Answer} → Lived image s a ns rs → Has s a ns rs
  has begun = record { lives = begin (length-replicate {A = ℕ} AREA 255) (all_erased AREA); ran = ends }
  has (called t e r h w j) = returned (times t e) r (has h) w j
  has (obeyed {s} {a} {x} {y} {ns = ns} {rs = rs} line room r h j) = go (heard room) refl (has h)
    where
      go : (b : Bool) → heard room ≡ b → Has s a ns rs → Has x y (plus ns (b && appends s a (types line)) (types line)) (plus rs (b && appends s a (types line)) r)
      go true e t = returned (types line) r t tt (line_journals j e)
      go false e t = same t (line_stays j e).0 (line_stays j e).1
  has (cut {s} {a} {b} {c} {z} {x} {y} {ns} {rs} n r h w e k d lz q) = go (ltb k.stores 128) refl (has h)
    where
      go : (m : Bool) → ltb k.stores 128 ≡ m → Has s a ns rs → Has x y (plus ns (not m) n) (plus rs (not m) (answer_at s n))
      go true m t = let u = (finds_before n t.lives w e k d m).finds z lz r x y q in same t u.1 u.2
      go false m t = let u = (finds_after n t.lives w e k d m).finds z lz r x y q in more n (answer_at s n) t w e refl u.1 u.2
  has (again {s} {a} {z} {x} {y} r h lz q) =
      let t = has h in
      let u = (found a s a (live step image t.lives).0.long (restarted step image t.lives)).finds z lz r x y q in
      record { lives = rw (u.1, u.2) t.lives; ran = rw u.1 t.ran }

  pub stands : {s a : List ℕ} {ns : List Noted} {rs : List Answer} → Lived image s a ns rs → Stands image s a ns rs
  stands {s} {a} h =
      let t = has h in
      record {
        long = (live step image t.lives).0.long;
        run = t.ran;
        restarts = found a s a (live step image t.lives).0.long (restarted step image t.lives);
        cut_before = λ n w e b c k d l. finds_before n t.lives w e k d (lt-ltb k.stores 128 l);
        cut_after = λ n w e b c k d l. finds_after n t.lives w e k d (le-ltb k.stores 128 (omega arith));
      }

-- ---- Demand 3 across restarts

run_on : {b c x : List ℕ} {ds es : List Doing} {rs qs : List Answer} → Run b ds rs c → Run c es qs x → Run b (ds ++ es) (rs ++ qs) x
run_on ends q = q
run_on (then d p) q = then d (run_on p q)

-- a buffer of any contents is opened by o, answered 0, and anything is done with it; what it is
-- then is the image of a life. The record runs from that opening on, across all restarts
pub demand_3_across_restarts : (b : List ℕ) (o : Order) (r : Answer) (y : List ℕ) → Typed o → OpenSays b o r y → r.number ≡ 0
    → (ds : List Doing) (qs : List Answer) (image : List ℕ) → Run y ds qs image
    → (s a : List ℕ) (ns : List Noted) (rs : List Answer) → Lived image s a ns rs
    → OnTheBuffer (since (from (given_by o)) (ds ++ map plain ns) (qs ++ rs)) s
demand_3_across_restarts b o r y t q z ds qs image d s a ns rs h =
    let ok : good image ≡ true = (demand_3_on_the_buffer b o r y t q z ds qs image d).stays_good in
    demand_3_on_the_buffer b o r y t q z (ds ++ map plain ns) (qs ++ rs) s (run_on d (stands image ok h).run)

-- and from any good image on, however it came to be: the record begins with what it holds
pub demand_3_from_an_image : (image : List ℕ) → good image ≡ true → (s a : List ℕ) (ns : List Noted) (rs : List Answer) → Lived image s a ns rs
    → OnTheBuffer (since (from (view image)) (map plain ns) rs) s
demand_3_from_an_image image ok s a ns rs h = demand_3_from_a_good_buffer image ok (map plain ns) rs s (stands image ok h).run

-- with room in the journal, a journaled call is answered as the rules answer over the record
pub answers_with_room : (h : Since) (s : List ℕ) → OnTheBuffer h s → (a : List ℕ) → length a ≡ AREA → free (slots a) < SLOTS
    → (n : Noted) (r : Answer) (x y : List ℕ) → Journals s a n r x y → r ≡ ruled h.given (record_since h) (call_of n)
unfolding journal_answer
answers_with_room h s o a long room n r x y j =
    let e : r ≡ answer_at s n = j.answered ∙ go (refused (answer_at s n)) in
    e ∙ o.next (call_of n) (answer_at s n) (call_after s (call_of n)) (record { answered = refl; left = refl })
  where
    go : (q : Bool) → cond (sized a) (cond (not q && not (roomy a)) (answer 6 0) (answer_at s n)) (answer 1 0) ≡ answer_at s n
    go true = rw (eq-eqb (length a) AREA long)
    go false = rw (eq-eqb (length a) AREA long, lt-ltb (free (slots a)) SLOTS room)
