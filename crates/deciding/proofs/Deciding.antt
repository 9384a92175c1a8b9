-- The rows of the table of limits, and the answer to a request, from what each test found. Assumes
-- nothing.
use mathlib.Core.Path.{◌≡◌, refl, sym, ap, ◌∙◌}
use Rattle.std.specs.Prelude.{Option, Some, None}
use mathlib.Core.Bool.{Bool, true, false, cond, ◌&&◌}
use mathlib.Core.List.{List}
use Prim.Native.Nat.{ℕ, ◌+◌, ◌-◌, ◌≤◌, ◌<◌}
use native.Mathlib.Numerals.{add-one}
use native.Mathlib.Omega.{arith}
use lib.Dec.{lit<, leb, ltb}
use lib.ListN.{get_or, drop}
use lib.Seq.{drop-cons}
use borrow.Author.Tests.{lt-ltb, le-ltb, ne_eqb}
use Rattle.rules.specs.Calls.{timed, answer}
use Rattle.rules.specs.declared.Event.TheVariants.{Ask as ask}
use Rattle.rules.specs.Tables.{Kind, attach, activation, pdp, sms, reset, within, in_hour, from_newest, free_in, ascending, among, refusals}
use Rattle.rules.specs.Rules.{Limit, limit, limits, blocks, blocked_by, first_block, refusal, runs, verdict, ruling, refused}
use Rattle.rules.specs.State.{State}
use Rattle.rules.proofs.Newest.{ascending_rises, ascending_wider, within_past, within_late}
use Rattle.rules.proofs.Leaving.{full_leaves}
use Rattle.rules.proofs.Again.{first_is}
use Rattle.refusals.specs.Refusals.{above_zero}
use Rattle.refusals.proofs.Found.{zero_none, above_some}
use Rattle.buffer.specs.Layout.{place, row, facts_of, view}
use Rattle.buffer.specs.Good.{good}
use Rattle.permits.specs.Permits.{full_for}
use Rattle.buffer.specs.Lists.{Listed}
use Rattle.buffer.proofs.Goodness.{good_shape, valid_view}
use Rattle.buffer.proofs.Sane.{valid_facts}
use Rattle.buffer.proofs.Listing.{row_listed}
use Rattle.deciding.specs.declared.Row.{Row}
use Rattle.deciding.specs.Limits.{limit_at, RowOf, waiting}

-- ---- The rows of the table of limits

-- every list of a row is one of the five
kind_five : (k : Kind) → place k < 5
kind_five attach = lit< tt
kind_five activation = lit< tt
kind_five pdp = lit< tt
kind_five sms = lit< tt
kind_five reset = lit< tt

-- what is found of a row is what its limit says
row_found : (b : List ℕ) (t : ℕ) (l : Limit) (r : Row) → RowOf l r
    → cond (r.applies && ltb 0 r.most) (full_for t r.most (row b r.list)) 0 ≡ cond (blocks (view b) t l) (free_in t l.most ((view b).lists l.kind)) 0
unfolding blocks full_for
row_found b t l r h = rw (h.applies, h.most, h.list) (go l.applies (ltb 0 l.most) (leb l.most (in_hour t ((view b).lists l.kind))) (free_in t l.most ((view b).lists l.kind)))
  where
    go : (x y z : Bool) (n : ℕ) → cond (x && y) (cond z n 0) 0 ≡ cond (x && (y && z)) n 0
    go true true z n = refl
    go true false z n = refl
    go false y z n = refl

module _ (b : List ℕ) (t q i : ℕ) (r : Row) (h : RowOf (limit_at (facts_of b) q i) r) (g : good b ≡ true) where
  pub row_stands : Listed b r.list
  row_stands = rw h.list (row_listed b (good_shape b g) (place (limit_at (facts_of b) q i).kind) (kind_five (limit_at (facts_of b) q i).kind))

  -- at a time that is not before the last
  module _ (late : (facts_of b).last ≤ t) where
    k : Kind
    k = (limit_at (facts_of b) q i).kind

    rises : ascending 0 t ((view b).lists k) ≡ true
    unfolding k
    rises = ascending_wider (facts_of b).opening.opened (facts_of b).last 0 t ((view b).lists k) (omega arith) late ((valid_facts (view b) (valid_view b g)).rising k)

    pub row_rises : ascending 0 t (row b r.list) ≡ true
    unfolding k
    row_rises = rw h.list rises

    module _ (o : Option ℕ) (e : o ≡ above_zero (cond (r.applies && ltb 0 r.most) (full_for t r.most (row b r.list)) 0)) where
      seconds : ℕ
      seconds = free_in t (limit_at (facts_of b) q i).most ((view b).lists k)

      found : o ≡ above_zero (cond (blocks (view b) t (limit_at (facts_of b) q i)) seconds 0)
      unfolding seconds k
      found = e ∙ ap above_zero (row_found b t (limit_at (facts_of b) q i) r h)

      -- the time that has to leave is in the hour
      in_the_hour : blocks (view b) t (limit_at (facts_of b) q i) ≡ true → within t (from_newest (limit_at (facts_of b) q i).most ((view b).lists k)) ≡ true
      unfolding k
      in_the_hour d = (full_leaves (view b) t (limit_at (facts_of b) q i) 0 (ascending_rises 0 t ((view b).lists k) (omega arith) rises) d).in_the_hour

      -- seconds are found just where the limit blocks, and they are its own
      pub row_on : (m : ℕ) → o ≡ Some m → (blocks (view b) t (limit_at (facts_of b) q i) ≡ true) × (m ≡ free_in t (limit_at (facts_of b) q i).most ((view b).lists (limit_at (facts_of b) q i).kind))
      unfolding seconds k
      row_on m s = let a = above_some _ m (sym s ∙ found) in go (blocks (view b) t (limit_at (facts_of b) q i)) refl a.0 a.1
        where
          go : (x : Bool) → blocks (view b) t (limit_at (facts_of b) q i) ≡ x → m ≡ cond x seconds 0 → (m ≡ 0 → ⊥) → (x ≡ true) × (m ≡ seconds)
          go true d f n = (refl, f)
          go false d f n = absurd (n f)

      -- and the time that has to leave is as long ago as they fall short of an hour
      pub row_time : (m : ℕ) → o ≡ Some m → (m ≤ 3600) × ((3600 - m ≤ t) × (t - (3600 - m) ≡ from_newest (limit_at (facts_of b) q i).most ((view b).lists (limit_at (facts_of b) q i).kind)))
      unfolding k
      row_time m s =
          let o = row_on m s in
          let w = in_the_hour o.0 in
          let x = within_past t _ w in
          let y = within_late t _ w in
          (omega (arith, x, o.1), (omega (arith, x, y, o.1), omega (arith, x, y, o.1)))

      pub row_off : o ≡ None → blocks (view b) t (limit_at (facts_of b) q i) ≡ false
      unfolding seconds
      row_off s = go (blocks (view b) t (limit_at (facts_of b) q i)) refl (zero_none _ (sym s ∙ found))
        where
          go : (x : Bool) → blocks (view b) t (limit_at (facts_of b) q i) ≡ x → cond x seconds 0 ≡ 0 → x ≡ false
          go true d f = absurd (omega (arith, within_late t _ (in_the_hour d), f))
          go false d f = refl

-- the first block from row i on
pub first_at : (w : State) (t q i : ℕ) → i < 7
    → first_block w t (drop i (limits w.facts q))
    ≡ cond (blocks w t (limit_at w.facts q i))
    (blocked_by w t (limit_at w.facts q i))
    (first_block w t (drop (i + 1) (limits w.facts q)))
unfolding limits
first_at w t q i h = rw add-one (ap (first_block w t) (drop-cons (limits w.facts q) i (limit 0 false 0 attach) h))

-- no limit's number is a refusal
pub first_passes : (w : State) (t q : ℕ) → refused (first_block w t (limits w.facts q)) ≡ false
unfolding limits
first_passes w t q = first_is (λ n. among n refusals ≡ false) w t (limits w.facts q) refl (refl, (refl, (refl, (refl, (refl, (refl, (refl, tt)))))))

-- ---- The answer to a request that no check refuses

module _ (w : State) (t q : ℕ) (e : 0 ≡ refusal w.facts (timed t (ask q))) (o : Option ℕ) (d : o ≡ above_zero (waiting w.facts t q)) where
  ask_on : ruling w (timed t (ask q)) ≡ cond (runs w.facts t q) (answer 10 (get_or w.facts.services.ends q 0 - t)) (first_block w t (limits w.facts q))
  unfolding ruling verdict
  ask_on = rw (← e)

  pub ask_waits : (m : ℕ) → o ≡ Some m → answer 10 m ≡ ruling w (timed t (ask q))
  unfolding runs
  ask_waits m s = let a = above_some _ m (sym s ∙ d) in sym (ask_on ∙ go (leb q 3) a.0 a.1)
    where
      end : ℕ
      end = get_or w.facts.services.ends q 0

      go : (x : Bool) → m ≡ cond x (end - t) 0 → (m ≡ 0 → ⊥)
          → cond (x && ltb t end) (answer 10 (end - t)) (first_block w t (limits w.facts q)) ≡ answer 10 m
      go true p h = rw (lt-ltb t end (omega arith), ← p)
      go false p h = absurd (h p)

  pub ask_goes : o ≡ None → first_block w t (limits w.facts q) ≡ ruling w (timed t (ask q))
  unfolding runs
  ask_goes s = sym (ask_on ∙ go (leb q 3) (zero_none _ (sym s ∙ d)))
    where
      end : ℕ
      end = get_or w.facts.services.ends q 0

      go : (x : Bool) → cond x (end - t) 0 ≡ 0
          → cond (x && ltb t end) (answer 10 (end - t)) (first_block w t (limits w.facts q)) ≡ first_block w t (limits w.facts q)
      go true p = rw (le-ltb t end (omega arith))
      go false p = refl

-- a request that a check refuses, by the number of that check
pub ask_refused : (w : State) (t q n : ℕ) → n ≡ refusal w.facts (timed t (ask q)) → (n ≡ 0 → ⊥) → answer n 0 ≡ ruling w (timed t (ask q))
unfolding ruling
ask_refused w t q n e h = rw (← e, ne_eqb n 0 h)
