-- What is said of a request is what is meant, and agrees with the gate's own answer; and it is one thing only. Assumes nothing.
use mathlib.Core.Path.{◌≡◌, refl, sym, ap, ◌∙◌}
use mathlib.Core.Bool.{Bool, true, false, cond}
use mathlib.Core.List.{List}
use mathlib.Core.Logic.{◌⊎◌, inl, inr}
use Prim.Native.Nat.{ℕ, suc, ◌+◌, ◌-◌, ◌≤◌, ◌<◌}
use native.Mathlib.Omega.{arith}
use native.Mathlib.Numerals.{add-one}
use lib.Dec.{lit≤, ltb, eqb}
use lib.ListN.{get_or, get_or-map}
use Rattle.rules.specs.declared.Answer.{Answer}
use Rattle.rules.specs.Calls.{timed, answer}
use Rattle.rules.specs.declared.Event.TheVariants.{Ask as ask}
use Rattle.rules.specs.Tables.{highest_time, Kind, attach, rules}
use Rattle.rules.specs.Rules.{Limit, limit, limits, blocks, refusal, ruling}
use Rattle.rules.specs.State.{State}
use Rattle.rules.proofs.Checks.{is_in_range, on_time, fits, passes}
use Rattle.rules.specs.Leaves.{Leaves}
use Rattle.rules.proofs.Newest.{Rising, rising_more, ascending_rises}
use Rattle.rules.proofs.Leaving.{full_leaves}
use Rattle.rules.proofs.Again.{blocks_until}
use Rattle.buffer.specs.Layout.{facts_of, view}
use Rattle.buffer.specs.Good.{good}
use Rattle.buffer.proofs.Goodness.{valid_view}
use Rattle.buffer.proofs.Sane.{valid_facts}
use Rattle.clock.specs.Call.{call_answer}
use Rattle.deciding.specs.Limits.{limit_at}
use Rattle.reasons.specs.declared.said.Why.{Why}
use Rattle.reasons.specs.Why.{alone, against, bit, bit_at, stand, weigh, leaving, times, refused_by, reasons, why_of, RoomSays}
use Rattle.reasons.specs.Meaning.{Means}
use Rattle.reasons.proofs.Bits.{ones_weigh, first_weigh, bit_weigh, weigh_lt}
use Rattle.reasons.proofs.Alone.{found, each_alone, row_alone, row_second, gate_second, stand_is, times_are, first_is}

-- ---- Over a state whose lists rise

module _ (w : State) (t q : ℕ) (z : refusal w.facts (timed t (ask q)) ≡ 0) (a : ℕ) (up : (k : Kind) → Rising a (w.lists k) t) where
  bit_alone : (i : ℕ) → i < 8 → bit_at i (weigh (stand w t q)) ≡ bit (against w t q (get_or rules i 0))
  bit_alone i h = bit_weigh i (stand w t q) h ∙ ap (λ (bs : List Bool). bit (get_or bs i false)) (stand_is w t q z) ∙ ap bit (sym (each_alone w t q z i h).stands)

  own : (n : ℕ) (b : Bool) {m : ℕ} → m ≡ cond b n 0 → (m ≡ n) ⊎ (m ≡ 0)
  own n true e = inl e
  own n false e = inr e

  -- at a later time no check refuses it either
  later : (u : ℕ) → t ≤ u → u ≤ highest_time → refusal w.facts (timed u (ask q)) ≡ 0
  later u h k = let f = w.facts in let o = on_time f t (ask q) z in passes f u (ask q) (is_in_range f t (ask q) z) (omega (arith, o, h)) k (fits f t (ask q) z)

  module _ (i : ℕ) (h : i < 7) (e : against w t q (limit_at w.facts q i).number ≡ true) where
    r : Limit
    r = limit_at w.facts q i

    stands : blocks w t r ≡ true
    unfolding r
    stands = sym (row_alone w t q z i h) ∙ e

    time_at : get_or (times w t q) (i + 1) 0 ≡ leaving w r
    unfolding r blocks
    time_at =
        rw add-one
        (ap (λ (l : List ℕ). get_or l (suc i) 0) (times_are w t q z)
        ∙ get_or-map (λ (x : Limit). cond (blocks w t x) (leaving w x) 0) (limits w.facts q) i (limit 0 false 0 attach)
        ∙ rw stands)

    leaves_then : Leaves (w.lists r.kind) r.most t
    leaves_then = full_leaves w t r a (up r.kind) stands

    alone_then : (ruling (alone r.number w) (timed t (ask q))).second ≡ get_or (times w t q) (i + 1) 0 + 3600 - t
    unfolding r
    alone_then = rw time_at (row_second w t q z i h stands)

    alone_then_until : (u : ℕ) → t ≤ u → u ≤ highest_time → against w u q r.number ≡ ltb u (t + (ruling (alone r.number w) (timed t (ask q))).second)
    unfolding r
    alone_then_until u h' k =
        rw (row_second w t q z i h stands) (row_alone w u q (later u h' k) i h ∙ blocks_until w a t u up h' r stands)

  gate_then : (i : ℕ) → i < 7 → (ruling w (timed t (ask q))).number ≡ (limit_at w.facts q i).number → (ruling w (timed t (ask q))).second ≡ get_or (times w t q) (i + 1) 0 + 3600 - t
  unfolding r
  gate_then i h e = let f = gate_second w t q z i h e in rw (time_at i h (row_alone w t q z i h ∙ f.0)) f.1

  pub means : Means w t q (reasons w t q)
  unfolding reasons r
  means = rw z (record {
    bits_alone = bit_alone;
    eight_bits = weigh_lt (stand w t q);
    own_answer = λ i h. own (get_or rules i 0) (get_or (found w t q z) i false) (each_alone w t q z i h).number;
    counted = sym (ones_weigh (stand w t q));
    lowest = sym (first_weigh 32 rules (stand w t q) refl (lit≤ tt) ∙ first_is w t q z);
    gates_own = refl;
    leaves = λ i h e. (time_at i h e, leaves_then i h e);
    alone_seconds = alone_then;
    gates_seconds = gate_then;
    alone_until = alone_then_until;
  })

-- ---- On a buffer

pub why_means : (b : List ℕ) (t q : ℕ) → good b ≡ true → refusal (facts_of b) (timed t (ask q)) ≡ 0 → Means (view b) t q (why_of b t q)
unfolding why_of
why_means b t q g z =
    let v = valid_facts (view b) (valid_view b g) in
    let f = facts_of b in
    let late = on_time f t (ask q) z in
    rw g (means (view b) t q z f.opening.opened (λ k. rising_more f.opening.opened ((view b).lists k) f.last t (ascending_rises f.opening.opened f.last ((view b).lists k) v.sane.late (v.rising k)) late))

-- for any buffer, request and time: a refusal is the gate's own, and where there is none the first rule named is
pub as_the_gate : (b : List ℕ) (t q : ℕ) → cond (eqb (why_of b t q).refusal 0) (why_of b t q).first (why_of b t q).refusal ≡ (call_answer b (timed t (ask q))).number
unfolding why_of call_answer reasons ruling
as_the_gate b t q = go (good b)
  where
    n : ℕ
    n = refusal (facts_of b) (timed t (ask q))

    passed : (x : Bool) → eqb n 0 ≡ x → cond (eqb (reasons (view b) t q).refusal 0) (reasons (view b) t q).first (reasons (view b) t q).refusal ≡ (ruling (view b) (timed t (ask q))).number
    passed true e = rw e
    passed false e = rw (e, e)

    go : (x : Bool)
        → cond (eqb (cond x (reasons (view b) t q) (refused_by 1)).refusal 0) (cond x (reasons (view b) t q) (refused_by 1)).first (cond x (reasons (view b) t q) (refused_by 1)).refusal
        ≡ (cond x (ruling (view b) (timed t (ask q))) (answer 1 0)).number
    go true = passed (eqb n 0) refl
    go false = refl

-- ---- One result only

pub one_why : (b : List ℕ) (t q : ℕ) {r r' : Why} → r ≡ why_of b t q → r' ≡ why_of b t q → r ≡ r'
one_why b t q e e' = e ∙ sym e'

pub one_result : {b : List ℕ} {t q : ℕ} {room : List ℕ} {r r' : Answer} {x x' : List ℕ} → RoomSays b t q room r x → RoomSays b t q room r' x' → (r ≡ r') × (x ≡ x')
one_result p p' = (p.answered ∙ sym p'.answered, p.left ∙ sym p'.left)
