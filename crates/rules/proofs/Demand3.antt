-- Demand 3: whoever answers as the rules do over the record keeps it, and what a buffer holds, the
-- newest 255 of each list, does; whoever keeps its sentences answers as the rules do. Assumes
-- nothing.
use Prim.Native.Nat.{ℕ, ◌+◌, ◌-◌, ◌≤◌, ◌<◌}
use mathlib.Core.Path.{◌≡◌, refl, ap, ◌∙◌}
use mathlib.Core.Bool.{false}
use mathlib.Core.List.{List, [], ◌∷◌, ◌++◌}
use lib.ListN.{length, get_or}
use lib.Dec.{ltb}
use borrow.Author.Tests.{ltb-false, le-leb, lt-leb}
use Rattle.rules.specs.declared.Answer.{Answer}
use Rattle.rules.specs.Calls.{Call, Entry}
use Rattle.rules.specs.Tables.{in_hour, Kind}
use Rattle.rules.specs.Record.{permits}
use Rattle.rules.specs.Rules.{ruling, held, held_answers, short}
use Rattle.rules.specs.State.{State}
use Rattle.rules.specs.Told.{tells, ruled, entered, onward, ruled_all, told}
use Rattle.rules.specs.Direct.{Limited, Sends, Direct}
use Rattle.rules.specs.Demand3.{Demand3}
use Rattle.rules.proofs.RecordTells.{Begins, known_tells, answers_told}
use Rattle.rules.proofs.Newest.{Rising, rising_more, Sound, known_sound, bounded}
use Rattle.rules.proofs.Hour.{rolling_hour}
use Rattle.rules.proofs.Given.{Rises, in_hour_more, ruled_given, given_ruled}
use Rattle.rules.proofs.Direct.{sentences, not_over, Sent, sent}

-- what a record may begin with: a new buffer, or what a good buffer holds
pub record Starts (g : State) : Type 0 where
  pub sound : Sound g
  pub short : short g ≡ g
  pub begins : Begins g

pub rises : (g : State) → Starts g → (before : List Call) → Rises g (told g before)
unfolding tells
rises g b before k = rw (known_tells g b.begins before) at ((known_sound g b.sound before).rising k)

pub onward_append : (g : State) (past : List Entry) (cs ds : List Call) → onward g past (cs ++ ds) ≡ onward g (onward g past cs) ds
onward_append g past [] ds = refl
onward_append g past (c ∷ cs) ds = onward_append g (entered c (ruled g past c) past) cs ds

-- ---- The demand

-- whoever answers the next call as the rules do over the record keeps the demand
pub as_the_rules : (g : State) → Starts g → (before : List Call) (next : Call → Answer) → ((c : Call) → next c ≡ ruled g (told g before) c)
    → Demand3 g (told g before) next
as_the_rules g b before next same = record {
  as_the_record = same;
  direct = sentences g (told g before) (rises g b before) next (λ c. rw (same c) (ruled_given g (told g before) (rises g b before) c));
}

-- and whoever keeps its sentences, which know no rule, answers every call as the rules do
pub whole : (g : State) → Starts g → (before : List Call) (next : Call → Answer) → Direct g (told g before) next
    → (c : Call) → next c ≡ ruled g (told g before) c
whole g b before next d c = given_ruled g (told g before) (rises g b before) c (next c) (d.given c)

-- DEMAND 3 of what a buffer holds, for everything that a record may begin with, and every sequence
-- of calls after it
pub demand_3 : (g : State) → Starts g → (before : List Call) → Demand3 g (told g before) (λ c. ruling (held g before) c)
demand_3 g b before =
    as_the_rules g b before (λ c. ruling (held g before) c)
    (λ c. (bounded g b.sound b.short before).next c ∙ ap (λ (w : State). ruling w c) (known_tells g b.begins before))

-- what a buffer holds is what the record tells, each list cut to its newest 255; its answers so far
-- are the rules' over the record
pub held_told : (g : State) → Starts g → (cs : List Call) → held g cs ≡ short (tells g (told g cs))
held_told g b cs = (bounded g b.sound b.short cs).same_state ∙ ap (λ (w : State). short w) (known_tells g b.begins cs)

pub held_answers_ruled : (g : State) → Starts g → (cs : List Call) → held_answers g cs ≡ ruled_all g [] cs
held_answers_ruled g b cs = (bounded g b.sound b.short cs).same_answers ∙ answers_told g b.begins cs

-- ---- The bound without counting

-- of more permits than a limit on it, the one so many places before a permit or an ordered reset is
-- at least 3,600 seconds older
pub spaced : (g : State) → Starts g → (before : List Call) (t q : ℕ) (c : Call) → Sends t c (ruled g (told g before) c).number q
    → (n L : ℕ) (k : Kind) → Limited g (told g before) q n L k → 0 < L → L ≤ length (permits g k (told g before))
    → get_or (permits g k (told g before)) (length (permits g k (told g before)) - L) 0 + 3600 ≤ t
unfolding tells
spaced g b before t q c s n L k l above long = ltb-false t (get_or ps (length ps - L) 0 + 3600) gone
  where
    past : List Entry
    past = told g before

    ps : List ℕ
    ps = permits g k past

    goes : Sent g past t q
    goes = sent g past (ruled_given g past (rises g b before) c) refl s

    up : Rising g.facts.opening.opened ps t
    up = rising_more _ ps _ t (rises g b before k) goes.late

    few : in_hour t (ps ++ (t ∷ [])) ≤ L
    few = not_over g past t L k above (goes.keeps n L k l)

    gone : ltb t (get_or ps (length ps - L) 0 + 3600) ≡ false
    gone = rw (rolling_hour L t g.facts.opening.opened ps above up, le-leb L (length ps) long) at (lt-leb L (in_hour t ps) (rw (in_hour_more t ps) at few))
