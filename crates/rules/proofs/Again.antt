-- A request that a limit blocks, asked again with nothing in between: the limit answers until the seconds of its answer are over, and then no more.
-- Assumes nothing.
use Prim.Native.Nat.{ℕ, ◌+◌, ◌-◌, ◌≤◌, ◌<◌}
use mathlib.Core.Path.{◌≡◌, refl, sym, ap, ◌∙◌, subst}
use mathlib.Core.Bool.{Bool, true, false, cond, ◌&&◌, false≢true}
use mathlib.Core.List.{List, [], ◌∷◌, ◌++◌, append-nil}
use mathlib.Core.Logic.{◌≢◌}
use lib.ListN.{length, get_or}
use lib.Dec.{ltb, leb, eqb}
use borrow.Author.Tests.{ltb-true, ltb-false, leb-true, lt-ltb, le-ltb, le-leb, lt-leb, eqb-true, ne_eqb}
use native.Mathlib.Omega.{arith}
use Rattle.rules.specs.declared.Answer.{Answer}
use Rattle.rules.specs.Calls.{ask, Call, timed, Entry, entry, answer}
use Rattle.rules.specs.Tables.{highest_time, in_hour, from_newest, free_in, Kind, refusals, among, limiting}
use Rattle.rules.specs.Record.{last_time, permits, back_off_end, standing, mood}
use Rattle.rules.specs.Rules.{Limit, limits, blocks, blocked_by, first_block, stands, refusal, runs, verdict, ruling, refused}
use Rattle.rules.specs.State.{State}
use Rattle.rules.specs.Told.{tells, ruled, told}
use Rattle.rules.specs.Demand3.{Again}
use Rattle.rules.proofs.Among.{among_all, not_among}
use Rattle.rules.proofs.Checks.{refusal_low, is_in_range, on_time, fits, passes}
use Rattle.rules.proofs.Groups.{four_path}
use Rattle.rules.proofs.Newest.{Rising, rising_more, within_late, blocks_full, full_blocks}
use Rattle.rules.proofs.Hour.{rolling_hour}
use Rattle.rules.proofs.Leaving.{full_leaves}
use Rattle.rules.proofs.Rows.{Each, Ordered, ordered, each_other}
use Rattle.rules.proofs.Given.{Rises}
use Rattle.rules.proofs.Demand3.{Starts, rises, onward_append}

-- ---- A limit, by how many are in the hour

few_frees : (w : State) (t : ℕ) (r : Limit) → in_hour t (w.lists r.kind) < r.most → blocks w t r ≡ false
unfolding blocks
few_frees w t r h = rw (lt-leb r.most (in_hour t (w.lists r.kind)) h) (go r.applies (ltb 0 r.most))
  where
    go : (x y : Bool) → (x && (y && false)) ≡ false
    go true true = refl
    go true false = refl
    go false y = refl

-- the first that blocks: its number has what 0 and every row's number have
pub first_is : (P : ℕ → Type 0) (w : State) (t : ℕ) (rs : List Limit) → P 0 → Each (λ r. P r.number) rs → P (first_block w t rs).number
first_is P w t [] z h = z
first_is P w t (r ∷ rs) z h = go (blocks w t r) (first_is P w t rs z h.1)
  where
    go : (b : Bool) → P (first_block w t rs).number → P (cond b (blocked_by w t r) (first_block w t rs)).number
    go true x = h.0
    go false x = x

-- ---- From t to u, with the same lists

module _ (w : State) (a t u : ℕ) (up : (k : Kind) → Rising a (w.lists k) t) (later : t ≤ u) where
  -- a limit that blocks at t goes on until the seconds of its answer are over
  still : (r : Limit) → blocks w t r ≡ true → u < t + free_in t r.most (w.lists r.kind) → blocks w u r ≡ true
  still r e h =
      let f = blocks_full w t r e in
      let l = full_leaves w t r a (up r.kind) e in
      full_blocks w u r f.applies f.above (l.until u later (omega (arith, h, within_late t _ l.in_the_hour)))

  -- and not from then on
  over : (r : Limit) → blocks w t r ≡ true → t + free_in t r.most (w.lists r.kind) ≤ u → blocks w u r ≡ false
  over r e h = let l = full_leaves w t r a (up r.kind) e in few_frees w u r (l.from u (omega (arith, h, within_late t _ l.in_the_hour)))

  -- and one that does not block at t does not begin to
  not_yet : (r : Limit) → blocks w t r ≡ false → blocks w u r ≡ false
  not_yet r e = go (blocks w u r) refl
    where
      l : List ℕ
      l = w.lists r.kind

      p : ℕ
      p = from_newest r.most l

      before : blocks w u r ≡ true → blocks w t r ≡ true
      before x =
          let f = blocks_full w u r x in
          let long = le-leb r.most (length l) f.listed in
          let at_u : leb r.most (in_hour u l) ≡ ltb u (p + 3600) = rolling_hour r.most u a l f.above (rising_more a l t u (up r.kind) later) ∙ rw long in
          let at_t : leb r.most (in_hour t l) ≡ ltb t (p + 3600) = rolling_hour r.most t a l f.above (up r.kind) ∙ rw long in
          let h = ltb-true u (p + 3600) (sym at_u ∙ le-leb r.most (in_hour u l) f.over) in
          full_blocks w t r f.applies f.above (leb-true r.most (in_hour t l) (at_t ∙ lt-ltb t (p + 3600) (omega arith)))

      go : (b : Bool) → blocks w u r ≡ b → b ≡ false
      go false x = refl
      go true x = absurd (false≢true (sym e ∙ before x))

  -- so one that blocks at t blocks at u just when its seconds are not over
  pub blocks_until : (r : Limit) → blocks w t r ≡ true → blocks w u r ≡ ltb u (t + free_in t r.most (w.lists r.kind))
  blocks_until r e = go (ltb u (t + free_in t r.most (w.lists r.kind))) refl
    where
      go : (b : Bool) → ltb u (t + free_in t r.most (w.lists r.kind)) ≡ b → blocks w u r ≡ b
      go true x = still r e (ltb-true u _ x)
      go false x = over r e (ltb-false u _ x)

  first_still : (rs : List Limit) → (first_block w t rs).number ≢ 0 → u < t + (first_block w t rs).second
      → first_block w u rs ≡ answer (first_block w t rs).number (t + (first_block w t rs).second - u)
  first_still [] h k = absurd (h refl)
  first_still (r ∷ rs) h k = go (blocks w t r) refl h k (first_still rs)
    where
      here : Answer
      here = blocked_by w t r

      rest : Answer
      rest = first_block w t rs

      go : (b : Bool) → blocks w t r ≡ b → (cond b here rest).number ≢ 0 → u < t + (cond b here rest).second
          → (rest.number ≢ 0 → u < t + rest.second → first_block w u rs ≡ answer rest.number (t + rest.second - u))
          → first_block w u (r ∷ rs) ≡ answer (cond b here rest).number (t + (cond b here rest).second - u)
      go true e h k more =
          let same : free_in u r.most (w.lists r.kind) ≡ t + here.second - u = omega (arith, k, later) in
          rw (still r e k) (ap (answer r.number) same)
      go false e h k more = rw (not_yet r e) (more h k)

  first_over : (rs : List Limit) → Ordered rs → (first_block w t rs).number ≢ 0 → t + (first_block w t rs).second ≤ u → (first_block w u rs).number ≢ (first_block w t rs).number
  first_over [] o h k = absurd (h refl)
  first_over (r ∷ rs) o h k = go (blocks w t r) refl h k (first_over rs o.1.1)
    where
      here : Answer
      here = blocked_by w t r

      rest : Answer
      rest = first_block w t rs

      go : (b : Bool) → blocks w t r ≡ b → (cond b here rest).number ≢ 0 → t + (cond b here rest).second ≤ u
          → (rest.number ≢ 0 → t + rest.second ≤ u → (first_block w u rs).number ≢ rest.number)
          → (first_block w u (r ∷ rs)).number ≢ (cond b here rest).number
      go true e h k more = rw (over r e k) (first_is (λ n. n ≢ r.number) w u rs (λ z. omega (arith, o.0, z)) (each_other r.number rs o.1.0))
      go false e h k more = rw (not_yet r e) (more h k)

-- ---- What is told after the blocked request

first_lists : (v w : State) → ((k : Kind) → v.lists k ≡ w.lists k) → (u : ℕ) (rs : List Limit) → first_block v u rs ≡ first_block w u rs
unfolding blocks
first_lists v w e u [] = refl
first_lists v w e u (r ∷ rs) = rw (e r.kind, first_lists v w e u rs)

module _ (g : State) (past : List Entry) (up : Rises g past) (t q : ℕ) (a : Answer) (is : a ≡ ruled g past (timed t (ask q))) (limit : 11 ≤ a.number) where
  after : List Entry
  after = entry (timed t (ask q)) a ∷ past

  w : State
  w = tells g past

  rs : List Limit
  rs = limits w.facts q

  -- no check refused it, and no back-off held it
  record Passed : Type 0 where
    checks : refusal w.facts (timed t (ask q)) ≡ 0
    free : runs w.facts t q ≡ false
    first : a ≡ first_block w t rs

  passed : Passed
  unfolding ruling verdict w rs
  passed = go (eqb n 0) (runs w.facts t q) refl refl is
    where
      n : ℕ
      n = refusal w.facts (timed t (ask q))

      end : ℕ
      end = get_or w.facts.services.ends q 0

      go : (x y : Bool) → eqb n 0 ≡ x → runs w.facts t q ≡ y → a ≡ cond x (cond y (answer 10 (end - t)) (first_block w t rs)) (answer n 0) → Passed
      go false y e f h = absurd (omega (arith, limit, refusal_low w.facts (timed t (ask q)), ap (λ (z : Answer). z.number) h))
      go true true e f h = absurd (omega (arith, limit, ap (λ (z : Answer). z.number) h))
      go true false e f h = record { checks = eqb-true n 0 e; free = f; first = h }

  some : a.number ≢ 0
  some e = omega (arith, limit, e)

  same_lists : (k : Kind) → (tells g after).lists k ≡ w.lists k
  unfolding after w tells permits
  same_lists k = rw (ne_eqb a.number 0 some) (append-nil (permits g k past))

  standing_stays : (tells g after).facts.services.standing ≡ w.facts.services.standing
  unfolding after w tells standing
  standing_stays = four_path {f = λ s. standing g s after} {g = λ s. standing g s past} (λ s. rw (ne_eqb a.number 0 some))

  still_fits : stands (tells g after).facts (ask q) ≡ true
  unfolding stands
  still_fits =
      ap (λ (l : List ℕ). cond (leb q 3) (eqb (get_or l q 0) 0) (cond (eqb q 4) (eqb (get_or l 2 0) 2) true)) standing_stays
      ∙ fits w.facts t (ask q) passed.checks

  same_first : (u : ℕ) → first_block (tells g after) u (limits (tells g after).facts q) ≡ first_block w u rs
  unfolding after w rs tells mood limits
  same_first u = first_lists (tells g after) w same_lists u rs

  -- no back-off that did not run at t runs later
  free_on : (u : ℕ) → t ≤ u → runs (tells g after).facts u q ≡ false
  unfolding after w tells back_off_end runs
  free_on u h = go (leb q 3) passed.free
    where
      end : ℕ
      end = get_or w.facts.services.ends q 0

      go : (x : Bool) → (x && ltb t end) ≡ false → (x && ltb u end) ≡ false
      go true e = le-ltb u end (omega (arith, ltb-false t end e))
      go false e = refl

  -- asked again at u, it is answered by the first limit that blocks then
  answered_verdict : (u : ℕ) → t ≤ u → verdict (tells g after) (timed u (ask q)) ≡ first_block w u rs
  unfolding verdict
  answered_verdict u h = rw (free_on u h) (same_first u)

  answered : (u : ℕ) → t ≤ u → refusal (tells g after).facts (timed u (ask q)) ≡ 0 → ruled g after (timed u (ask q)) ≡ first_block w u rs
  unfolding ruling
  answered u h z = rw z (answered_verdict u h)

  not_refused : (u : ℕ) → t ≤ u → u ≤ highest_time → refusal (tells g after).facts (timed u (ask q)) ≡ 0
  unfolding after tells last_time
  not_refused u h k = passes (tells g after).facts u (ask q) (is_in_range w.facts t (ask q) passed.checks) h k still_fits

  risen : (k : Kind) → Rising g.facts.opening.opened (w.lists k) t
  unfolding w tells
  risen k = rising_more _ (permits g k past) _ t (up k) (on_time w.facts t (ask q) passed.checks)

  -- at any second before those of the answer are over
  sooner : (u : ℕ) → t ≤ u → u < t + a.second → u ≤ highest_time → ruled g after (timed u (ask q)) ≡ answer a.number (t + a.second - u)
  sooner u h k m =
      answered u h (not_refused u h m)
      ∙ subst (λ (x : Answer). x.number ≢ 0 → u < t + x.second → first_block w u rs ≡ answer x.number (t + x.second - u)) (sym passed.first)
      (first_still w g.facts.opening.opened t u risen h rs) some k

  -- and from then on
  later : (u : ℕ) → t + a.second ≤ u → (ruled g after (timed u (ask q))).number ≢ a.number
  unfolding ruling rs
  later u k = go (eqb n 0) refl
    where
      n : ℕ
      n = refusal (tells g after).facts (timed u (ask q))

      go : (x : Bool) → eqb n 0 ≡ x → (cond x (verdict (tells g after) (timed u (ask q))) (answer n 0)).number ≢ a.number
      go false e = λ z. omega (arith, limit, z, refusal_low (tells g after).facts (timed u (ask q)))
      go true e =
          let h : t ≤ u = omega (arith, k) in
          rw (answered_verdict u h)
          (subst (λ (x : Answer). x.number ≢ 0 → t + x.second ≤ u → (first_block w u rs).number ≢ x.number) (sym passed.first)
          (first_over w g.facts.opening.opened t u risen h rs (ordered w.facts q)) some k)

-- ---- The theorem

pub again : (g : State) → Starts g → (before : List Call) (t q : ℕ) → among (ruled g (told g before) (timed t (ask q))).number limiting ≡ true
    → Again g before t q (ruled g (told g before) (timed t (ask q)))
unfolding after
again g b before t q named = record { too_early = λ u h k m. rw told_after (sooner g past up t q a refl limit u h k m); in_time = λ u k. rw told_after (later g past up t q a refl limit u k) }
  where
    past : List Entry
    past = told g before

    up : Rises g past
    up = rises g b before

    a : Answer
    a = ruled g past (timed t (ask q))

    limit : 11 ≤ a.number
    limit = among_all (λ m. 11 ≤ m) a.number limiting (omega arith) named

    not_refused : refused a ≡ false
    not_refused = not_among a.number refusals (omega (arith, limit))

    told_after : told g (before ++ (timed t (ask q) ∷ [])) ≡ entry (timed t (ask q)) a ∷ past
    told_after = rw (onward_append g [] before (timed t (ask q) ∷ []), not_refused)
