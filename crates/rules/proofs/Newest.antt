-- However long the record, the newest 255 of each list give the answers that the full lists give. Assumes nothing.
use Prim.Native.Nat.{ℕ, zero, suc, ◌+◌, ◌-◌, ◌≤◌, ◌<◌}
use mathlib.Core.Path.{◌≡◌, refl, sym, ap, ◌∙◌}
use mathlib.Core.Bool.{Bool, true, false, cond, not, ◌&&◌}
use mathlib.Core.List.{List, [], ◌∷◌, ◌++◌, append-nil}
use lib.ListN.{length, get_or, drop, length-append, length-drop}
use lib.Seq.{drop-append-le, drop-drop, get_or-drop}
use lib.Dec.{ltb, leb, eqb}
use borrow.Author.Tests.{ltb-true, leb-true, lt-ltb, le-leb, eqb-true}
use native.Mathlib.Omega.{arith}
use Rattle.rules.specs.declared.Answer.{Answer}
use Rattle.rules.specs.Calls.{ask, outcome, granted, silent, rejected, dropped, tick, nfm, nfm_start, intervals, query, bad, Call, timed, typed, answer}
use Rattle.rules.specs.Tables.{within, in_hour, from_newest, ascending, Kind}
use Rattle.rules.specs.Record.{time_of}
use Rattle.rules.specs.Rules.{Limit, limits, blocks, first_block, is_due, on_reset, orders, refusal, verdict, ruling, refused, moved, acted, switched, obeyed, changed, enters, adds, learn}
use Rattle.rules.specs.State.{State, Facts}
use Rattle.rules.specs.Rules.{known, answers, newest, short, step, held, held_answers}
use Rattle.rules.specs.Demand3.{Bytes}
use Rattle.rules.proofs.Checks.{and_left, and_right, accepted, on_time, refused_adds}

-- ---- Lists of times that rise from a to b

abbrev pub Rising : ℕ → List ℕ → ℕ → Type 0
Rising a [] b = a ≤ b
Rising a (p ∷ l) b = (a ≤ p) × Rising p l b

pub rising_le : (a : ℕ) (l : List ℕ) (b : ℕ) → Rising a l b → a ≤ b
rising_le a [] b h = h
rising_le a (p ∷ l) b h = omega (arith, rising_le p l b h.1)

pub rising_more : (a : ℕ) (l : List ℕ) (b c : ℕ) → Rising a l b → b ≤ c → Rising a l c
rising_more a [] b c h g = omega arith
rising_more a (p ∷ l) b c h g = (h.0, rising_more p l b c h.1 g)

rising_snoc : (a : ℕ) (l : List ℕ) (b t : ℕ) → Rising a l b → b ≤ t → Rising a (l ++ (t ∷ [])) t
rising_snoc a [] b t h g = omega arith
rising_snoc a (p ∷ l) b t h g = (h.0, rising_snoc p l b t h.1 g)

-- times in order rise
pub ascending_rises : (lo hi : ℕ) (l : List ℕ) → lo ≤ hi → ascending lo hi l ≡ true → Rising lo l hi
unfolding ascending
ascending_rises lo hi [] h e = h
ascending_rises lo hi (x ∷ l) h e =
    let rest = and_right (leb lo x) (leb x hi && ascending x hi l) e in
    (leb-true lo x (and_left (leb lo x) _ e), ascending_rises x hi l (leb-true x hi (and_left (leb x hi) _ rest)) (and_right (leb x hi) _ rest))

-- and between wider bounds they are in order as well
pub ascending_wider : (lo hi a b : ℕ) (l : List ℕ) → a ≤ lo → hi ≤ b → ascending lo hi l ≡ true → ascending a b l ≡ true
unfolding ascending
ascending_wider lo hi a b [] h g e = refl
ascending_wider lo hi a b (x ∷ l) h g e =
    let rest = and_right (leb lo x) (leb x hi && ascending x hi l) e in
    let low = leb-true lo x (and_left (leb lo x) _ e) in
    let high = leb-true x hi (and_left (leb x hi) _ rest) in
    rw (le-leb a x (omega (arith, low, h)), le-leb x b (omega (arith, high, g))) (ascending_wider x hi x b l (omega arith) g (and_right (leb x hi) _ rest))

-- ---- The newest 255 show what a limit of at most 255 asks

pub within_past : (t p : ℕ) → within t p ≡ true → p ≤ t
unfolding within
within_past t p e = let h = and_left (leb p t) _ e in omega (arith, leb-true)

pub within_late : (t p : ℕ) → within t p ≡ true → t < p + 3600
unfolding within
within_late t p e = let h = and_right (leb p t) _ e in omega (arith, leb-true, ltb-true, eqb-true)

pub within_true : (t p : ℕ) → p ≤ t → t < p + 3600 → within t p ≡ true
unfolding within
within_true t p h g = rw (le-leb p t h, lt-ltb t (p + 3600) g)

pub all_in : (a t : ℕ) (l : List ℕ) → Rising a l t → t < a + 3600 → in_hour t l ≡ length l
all_in a t [] h g = refl
all_in a t (p ∷ l) h g = rw (within_true t p (rising_le p l t h.1) (omega arith), all_in p t l h.1 (omega arith))

-- no more are in the hour than there are
pub few : (t : ℕ) (l : List ℕ) → in_hour t l ≤ length l
few t [] = omega arith
few t (p ∷ l) = go (within t p) (few t l)
  where
    go : (b : Bool) → in_hour t l ≤ length l → cond b (suc (in_hour t l)) (in_hour t l) ≤ suc (length l)
    go true h = omega arith
    go false h = omega arith

pub enough : (m t p : ℕ) (l : List ℕ) → Rising p l t → m ≤ length l → leb m (in_hour t l) ≡ leb m (in_hour t (p ∷ l))
enough m t p l h g = go (within t p) refl
  where
    go : (b : Bool) → within t p ≡ b → leb m (in_hour t l) ≡ leb m (cond b (suc (in_hour t l)) (in_hour t l))
    go false e = refl
    go true e = let s : in_hour t l ≡ length l = all_in p t l h (within_late t p e) in
        le-leb m (in_hour t l) (omega arith) ∙ sym (le-leb m (suc (in_hour t l)) (omega arith))

cut : (m t a d : ℕ) (l : List ℕ) → m ≤ 255 → Rising a l t → d ≤ length l - 255 → leb m (in_hour t (drop d l)) ≡ leb m (in_hour t l)
cut m t a zero l g h k = refl
cut m t a (suc d) [] g h k = refl
cut m t a (suc d) (p ∷ l) g h k = cut m t p d l g h.1 (omega arith) ∙ enough m t p l h.1 (omega arith)

pub newest_counts : (m t a : ℕ) (l : List ℕ) → m ≤ 255 → Rising a l t → leb m (in_hour t (newest l)) ≡ leb m (in_hour t l)
unfolding newest
newest_counts m t a l g h = cut m t a (length l - 255) l g h (omega arith)

-- and so is the time so many places from the newest
pub from_newest_same : (m : ℕ) (l : List ℕ) → m ≤ 255 → from_newest m (newest l) ≡ from_newest m l
unfolding newest
from_newest_same m l h =
    let d = length l - 255 in
    let e : length l - 255 + (length l - (length l - 255) - m) ≡ length l - m = omega arith in
    ap (λ (n : ℕ). get_or (drop d l) (n - m) 0) (length-drop d l) ∙ get_or-drop d l (length l - d - m) 0 ∙ ap (λ (n : ℕ). get_or l n 0) e

-- ---- Cutting and adding

pub newest_append : (l m : List ℕ) → newest (newest l ++ m) ≡ newest (l ++ m)
unfolding newest
newest_append l m =
    let e : length l - 255 + (length l + length m - (length l - 255) - 255) ≡ length l + length m - 255 = omega arith in
    rw (← drop-append-le (length l - 255) l m (omega arith), drop-drop, length-drop, length-append, e)

-- ---- A state whose lists a buffer can stand for

pub record Sound (w : State) : Type 0 where
  pub bytes : Bytes w.facts.opening
  pub rising : (k : Kind) → Rising w.facts.opening.opened (w.lists k) w.facts.last

-- every limit is a byte
abbrev pub Small : List Limit → Type 0
Small [] = Unit {0}
Small (r ∷ rs) = (r.most ≤ 255) × Small rs

pub limits_small : (f : Facts) (q : ℕ) → Bytes f.opening → Small (limits f q)
unfolding limits
limits_small f q b = omega arith

-- ---- A limit that blocks applies, is above 0, and so many are in the hour and so on its list

pub record Full (w : State) (t : ℕ) (r : Limit) : Type 0 where
  pub applies : r.applies ≡ true
  pub above : 0 < r.most
  pub over : r.most ≤ in_hour t (w.lists r.kind)
  pub listed : r.most ≤ length (w.lists r.kind)

pub blocks_full : (w : State) (t : ℕ) (r : Limit) → blocks w t r ≡ true → Full w t r
unfolding blocks
blocks_full w t r e =
    let l = w.lists r.kind in
    let h = and_right r.applies _ e in
    let full = and_right (ltb 0 r.most) _ h in
    let n : r.most ≤ in_hour t l = omega (arith, leb-true, ltb-true) in
    record {
      applies = and_left r.applies _ e;
      above = ltb-true 0 r.most (and_left (ltb 0 r.most) _ h);
      over = n;
      listed = omega (arith, n, few t l);
    }

-- and one of which that holds blocks
pub full_blocks : (w : State) (t : ℕ) (r : Limit) → r.applies ≡ true → 0 < r.most → r.most ≤ in_hour t (w.lists r.kind) → blocks w t r ≡ true
unfolding blocks
full_blocks w t r h m n = rw (h, lt-ltb 0 r.most m, le-leb r.most (in_hour t (w.lists r.kind)) n)

-- ---- The ruling is the same over the newest 255

module _ (w : State) (s : Sound w) (t : ℕ) (late : w.facts.last ≤ t) where
  pub blocks_same : (r : Limit) → r.most ≤ 255 → blocks (short w) t r ≡ blocks w t r
  unfolding blocks short
  blocks_same r h =
      let up = rising_more _ (w.lists r.kind) _ t (s.rising r.kind) late in
      rw (newest_counts r.most t w.facts.opening.opened (w.lists r.kind) h up)

  first_same : (rs : List Limit) → Small rs → first_block (short w) t rs ≡ first_block w t rs
  unfolding short
  first_same [] h = refl
  first_same (r ∷ rs) h = rw (blocks_same r h.0, first_same rs h.1, from_newest_same r.most _ h.0)

  ask_same : (q : ℕ) → verdict (short w) (timed t (ask q)) ≡ verdict w (timed t (ask q))
  unfolding verdict short
  ask_same q = rw (first_same (limits w.facts q) (limits_small w.facts q s.bytes))

  orders_same : orders (short w) t ≡ orders w t
  unfolding orders on_reset short
  orders_same = ap (λ (x : Bool). is_due w.facts t && not x) (blocks_same (on_reset w.facts) s.bytes.N1)

cond_same : {A : Type 0} (b : Bool) (x y z : A) → (b ≡ true → x ≡ y) → cond b x z ≡ cond b y z
cond_same true x y z h = h refl
cond_same false x y z h = refl

verdict_same : (w : State) → Sound w → (c : Call) → refusal w.facts c ≡ 0 → verdict (short w) c ≡ verdict w c
unfolding verdict short
verdict_same w s (timed t (ask q)) p = ask_same w s t (on_time w.facts t (ask q) p) q
verdict_same w s (timed t (outcome _ granted)) p = refl
verdict_same w s (timed t (outcome _ silent)) p = refl
verdict_same w s (timed t (outcome _ (rejected _ _ _))) p = refl
verdict_same w s (timed t dropped) p = refl
verdict_same w s (timed t tick) p = rw (orders_same w s t (on_time w.facts t tick p))
verdict_same w s (typed (nfm _)) p = refl
verdict_same w s (typed (nfm_start _ _)) p = refl
verdict_same w s (typed (intervals _)) p = refl
verdict_same w s (typed query) p = refl
verdict_same w s (typed bad) p = refl

pub ruling_same : (w : State) → Sound w → (c : Call) → ruling (short w) c ≡ ruling w c
unfolding ruling short
ruling_same w s c =
    cond_same (eqb (refusal w.facts c) 0) (verdict (short w) c) (verdict w c) (answer (refusal w.facts c) 0)
    (λ e. verdict_same w s c (eqb-true (refusal w.facts c) 0 e))

-- ---- What is learned is the same

pub learn_same : (w : State) (c : Call) (a : Answer) → short (learn (short w) c a) ≡ short (learn w c a)
unfolding short learn
learn_same w c a i = record {
  facts = cond (refused a) w.facts (changed c a w.facts);
  lists = λ k. newest_append (w.lists k) (adds k c a) i;
}

-- ---- A sound state stays sound

-- a call leaves what the opening settled, and the last time becomes its own
pub changed_keeps : (c : Call) (a : Answer) (f : Facts) → ((changed c a f).opening ≡ f.opening) × ((changed c a f).last ≡ time_of c f.last)
unfolding changed acted moved obeyed switched
changed_keeps (timed t (ask _)) a f = (refl, refl)
changed_keeps (timed t (outcome _ _)) a f = (refl, refl)
changed_keeps (timed t dropped) a f = (refl, refl)
changed_keeps (timed t tick) a f = (refl, refl)
changed_keeps (typed (nfm _)) a f = (refl, refl)
changed_keeps (typed (nfm_start _ _)) a f = (refl, refl)
changed_keeps (typed (intervals _)) a f = (refl, refl)
changed_keeps (typed query) a f = (refl, refl)
changed_keeps (typed bad) a f = (refl, refl)

rising_added : (o b t : ℕ) (l : List ℕ) (x : Bool) → Rising o l b → b ≤ t → Rising o (l ++ cond x (t ∷ []) []) t
rising_added o b t l true h g = rising_snoc o l b t h g
rising_added o b t l false h g = rw append-nil (rising_more o l b t h g)

module _ (w : State) (s : Sound w) (a : Answer) where
  sound_changed : (c : Call) → refusal w.facts c ≡ 0 → Sound (record { facts = changed c a w.facts; lists = λ k. w.lists k ++ adds k c a })
  unfolding adds
  sound_changed (timed t e) p =
      let keeps = changed_keeps (timed t e) a w.facts in
      record {
        bytes = rw keeps.0 s.bytes;
        rising = λ k. rw (keeps.0, keeps.1) (rising_added _ _ t (w.lists k) (enters e a.number k) (s.rising k) (on_time w.facts t e p));
      }
  sound_changed (typed l) p =
      let keeps = changed_keeps (typed l) a w.facts in
      record { bytes = rw keeps.0 s.bytes; rising = λ k. rw (keeps.0, keeps.1, append-nil) (s.rising k) }

  sound_answered : (c : Call) → (refused a ≡ false → refusal w.facts c ≡ 0) → Sound (learn w c a)
  unfolding learn
  sound_answered c h = go (refused a) refl
    where
      go : (b : Bool) → refused a ≡ b → Sound (record { facts = cond b w.facts (changed c a w.facts); lists = λ k. w.lists k ++ adds k c a })
      go true e = record { bytes = s.bytes; rising = λ k. rw (refused_adds k c a e, append-nil) (s.rising k) }
      go false e = sound_changed c (h e)

pub sound_learn : (w : State) → Sound w → (c : Call) → Sound (learn w c (ruling w c))
sound_learn w s c = sound_answered w s (ruling w c) c (accepted w c)

pub known_sound : (w : State) → Sound w → (cs : List Call) → Sound (known w cs)
known_sound w s [] = s
known_sound w s (c ∷ cs) = known_sound (learn w c (ruling w c)) (sound_learn w s c) cs

-- ---- Any calls

step_same : (w : State) → Sound w → (c : Call) → step (short w) c ≡ short (learn w c (ruling w c))
unfolding step
step_same w s c = rw (ruling_same w s c) (learn_same w c (ruling w c))

answers_same : (w : State) → Sound w → (cs : List Call) → held_answers (short w) cs ≡ answers w cs
answers_same w s [] = refl
answers_same w s (c ∷ cs) = rw (ruling_same w s c, step_same w s c, answers_same (learn w c (ruling w c)) (sound_learn w s c) cs)

held_same : (w : State) → Sound w → (cs : List Call) → held (short w) cs ≡ short (known w cs)
held_same w s [] = refl
held_same w s (c ∷ cs) = rw (step_same w s c) (held_same (learn w c (ruling w c)) (sound_learn w s c) cs)

-- ---- From a start

-- what cutting each list to its newest 255 leaves as it was, after the calls cs from the start g
pub record Bounded (g : State) (cs : List Call) : Type 0 where
  -- the answers to the calls are those that the full lists give
  pub same_answers : held_answers g cs ≡ answers g cs
  -- and what is held is what is known, each list cut to its newest 255
  pub same_state : held g cs ≡ short (known g cs)
  -- so the next call, whatever it is, is answered the same
  pub next : (c : Call) → ruling (held g cs) c ≡ ruling (known g cs) c

pub bounded : (g : State) → Sound g → short g ≡ g → (cs : List Call) → Bounded g cs
bounded g s f cs =
    let e : held g cs ≡ short (known g cs) = rw f at (held_same g s cs) in
    record {
      same_answers = rw f at (answers_same g s cs);
      same_state = e;
      next = λ c. rw e (ruling_same (known g cs) (known_sound g s cs) c);
    }
