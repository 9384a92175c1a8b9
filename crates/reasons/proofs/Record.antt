-- However long the record, the newest 255 of each list give the reasons that the full lists give. Assumes nothing.
use mathlib.Core.Path.{◌≡◌, refl, sym, ap, ◌∙◌}
use mathlib.Core.Bool.{Bool, true, false, cond}
use mathlib.Core.List.{List, [], ◌∷◌, map}
use Prim.Native.Nat.{ℕ, ◌≤◌}
use lib.Dec.{eqb}
use borrow.Author.Tests.{eqb-true}
use Rattle.rules.specs.Calls.{timed}
use Rattle.rules.specs.declared.Event.TheVariants.{Ask as ask}
use Rattle.rules.specs.Rules.{Limit, limits, blocks, refusal, runs, ruling, short}
use Rattle.rules.specs.State.{State}
use Rattle.rules.proofs.Checks.{on_time}
use Rattle.rules.proofs.Newest.{from_newest_same, Sound, Small, limits_small, blocks_same, ruling_same}
use Rattle.reasons.specs.declared.said.Why.{Why}
use Rattle.reasons.specs.Why.{stand, weigh, how_many, leaving, times, refused_by, reasons}
use Rattle.reasons.proofs.Alone.{stand_is, times_are}

module _ (w : State) (s : Sound w) (t q : ℕ) (z : refusal w.facts (timed t (ask q)) ≡ 0) where
  late : w.facts.last ≤ t
  late = on_time w.facts t (ask q) z

  time_same : (r : Limit) → r.most ≤ 255 → cond (blocks (short w) t r) (leaving (short w) r) 0 ≡ cond (blocks w t r) (leaving w r) 0
  unfolding short
  time_same r h = rw (blocks_same w s t late r h, from_newest_same r.most (w.lists r.kind) h)

  all_same : (rs : List Limit) → Small rs → map (blocks (short w) t) rs ≡ map (blocks w t) rs
  all_same [] h = refl
  all_same (r ∷ rs) h = λ i. blocks_same w s t late r h.0 i ∷ all_same rs h.1 i

  times_same : (rs : List Limit) → Small rs → map (λ r. cond (blocks (short w) t r) (leaving (short w) r) 0) rs ≡ map (λ r. cond (blocks w t r) (leaving w r) 0) rs
  times_same [] h = refl
  times_same (r ∷ rs) h = λ i. time_same r h.0 i ∷ times_same rs h.1 i

  small : Small (limits w.facts q)
  small = limits_small w.facts q s.bytes

  standing_same : stand (short w) t q ≡ stand w t q
  unfolding short
  standing_same = stand_is (short w) t q z ∙ ap (λ (bs : List Bool). runs w.facts t q ∷ bs) (all_same (limits w.facts q) small) ∙ sym (stand_is w t q z)

  leaving_same : times (short w) t q ≡ times w t q
  unfolding short
  leaving_same = times_are (short w) t q z ∙ ap (λ (l : List ℕ). 0 ∷ l) (times_same (limits w.facts q) small) ∙ sym (times_are w t q z)

pub reasons_same : (w : State) → Sound w → (t q : ℕ) → reasons (short w) t q ≡ reasons w t q
unfolding reasons short
reasons_same w s t q = go (eqb n 0) refl
  where
    n : ℕ
    n = refusal w.facts (timed t (ask q))

    said : State → Why
    said v = record { refusal = 0; bits = weigh (stand v t q); count = how_many (stand v t q); first = (ruling v (timed t (ask q))).number; times = times v t q }

    go : (b : Bool) → eqb n 0 ≡ b → cond b (said (short w)) (refused_by n) ≡ cond b (said w) (refused_by n)
    go true e =
        let z = eqb-true n 0 e in
        λ i.
        record {
          refusal = 0;
          bits = weigh (standing_same w s t q z i);
          count = how_many (standing_same w s t q z i);
          first = (ruling_same w s (timed t (ask q)) i).number;
          times = leaving_same w s t q z i;
        }
    go false e = refl
