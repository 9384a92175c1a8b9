-- An accepted opening holds what its files rule; a written counter file reads back as the same
-- counters: they go out by one call and come back by an opening; a permit stands on its lists.
-- Assumes nothing.
use mathlib.Core.Path.{◌≡◌, refl, sym, ap, ◌∙◌}
use mathlib.Core.Bool.{Bool, true, false, cond}
use mathlib.Core.List.{List, [], ◌∷◌, ◌++◌, append-nil}
use mathlib.Core.Logic.{◌≢◌}
use Prim.Native.Nat.{ℕ, ◌+◌, ◌<◌}
use native.Mathlib.Omega.{arith}
use lib.Dec.{lit<}
use lib.ListN.{get_or, drop, replicate}
use lib.Seq.{get_or-take, get_or-drop}
use Rattle.rules.specs.declared.Answer.{Answer}
use Rattle.rules.specs.Calls.{Counter, C_BR_1, C_R_1, C_PDP_1, C_PDP_2, C_PDP_3, C_PDP_4, Call, answer}
use Rattle.rules.specs.Tables.{Kind, goes, of_six}
use Rattle.rules.specs.Direct.{Sends, by_permit, by_order}
use Rattle.rules.specs.Rules.{ruling, enters, adds, learn, newest, short, step}
use Rattle.rules.specs.State.{State}
use Rattle.buffer.specs.Places.{COUNTERS}
use Rattle.buffer.specs.Layout.{facts_of, place, row, view}
use Rattle.buffer.specs.Good.{good}
use Rattle.buffer.proofs.Goodness.{view_lay_valid, valid_view}
use Rattle.buffer.proofs.Keep.{newest_all, keep}
use Rattle.card.specs.Card.{absent, ruling_file, written}
use Rattle.clock.specs.Call.{call_answer, Says}
use Rattle.clock.proofs.Saying.{lists_short, after_is, answer_is}
use Rattle.opening.specs.Open.{Order, Typed, OpenSays, Ruled}
use Rattle.opening.proofs.Opened.{opened_rules}
use Rattle.saving.specs.Save.{saves, SaveSays}
use Rattle.gate.specs.Demands.{Grows}

-- the six counters of what was written; it is there, so it rules
written_rules : (c : List ℕ) (k : Counter) → of_six (ruling_file (written c) (replicate 32 0)) k ≡ of_six c k
unfolding written ruling_file absent
written_rules c C_BR_1 = refl
written_rules c C_R_1 = refl
written_rules c C_PDP_1 = refl
written_rules c C_PDP_2 = refl
written_rules c C_PDP_3 = refl
written_rules c C_PDP_4 = refl

-- the six counters of a buffer stand at places 44-49
six_places : (x : List ℕ) (i : ℕ) → i < 6 → get_or (facts_of x).counters i 0 ≡ get_or x (COUNTERS + i) 0
unfolding facts_of
six_places x i h = get_or-take 6 (drop COUNTERS x) i 0 h ∙ get_or-drop COUNTERS x i 0

same_six : (l m : List ℕ) → ((i : ℕ) → i < 6 → get_or l i 0 ≡ get_or m i 0) → (k : Counter) → of_six l k ≡ of_six m k
same_six l m e C_BR_1 = e 0 (lit< tt)
same_six l m e C_R_1 = e 1 (lit< tt)
same_six l m e C_PDP_1 = e 2 (lit< tt)
same_six l m e C_PDP_2 = e 3 (lit< tt)
same_six l m e C_PDP_3 = e 4 (lit< tt)
same_six l m e C_PDP_4 = e 5 (lit< tt)

-- an accepted opening holds what rules: the bytes of each of the card's files, or of the module's
-- own
pub files_rule : (b : List ℕ) (o : Order) (r : Answer) (x : List ℕ) → Typed o → OpenSays b o r x → r.number ≡ 0 → Ruled o x
files_rule b o r x t s z = opened_rules b o (ap (λ (a : Answer). a.number) (sym s.answered) ∙ z) t r x s

-- its counters are those of the file, or 0 where the card has none
pub counters_opened : (b : List ℕ) (o : Order) (r : Answer) (x : List ℕ) → Typed o → OpenSays b o r x → r.number ≡ 0 → (k : Counter) → of_six (facts_of x).counters k ≡ of_six (ruling_file o.counters (replicate 32 0)) k
counters_opened b o r x t s z = same_six (facts_of x).counters (ruling_file o.counters (replicate 32 0)) (λ i h. six_places x i h ∙ (files_rule b o r x t s z).counters i h)

-- counters written from b, and a buffer opened with that file: the same counters
pub counters_return : (b room : List ℕ) (r : Answer) (x y : List ℕ) → SaveSays b room r x y → r.number ≡ 0
    → (c : List ℕ) (o : Order) (q : Answer) (z : List ℕ) → Typed o → o.counters ≡ y → OpenSays c o q z → q.number ≡ 0
    → (k : Counter) → of_six (facts_of z).counters k ≡ of_six (facts_of b).counters k
counters_return b room r x y s e c o q z t f p d k =
    counters_opened c o q z t p d k ∙ ap (λ (l : List ℕ). of_six (ruling_file l (replicate 32 0)) k) (f ∙ s.room ∙ file (saves b room) (ap (λ (a : Answer). a.number) (sym s.answered) ∙ e))
    ∙ written_rules (facts_of b).counters k
  where
    file : (w : Bool) → (cond w (answer 0 32) (answer 1 0)).number ≡ 0 → cond w (written (facts_of b).counters) room ≡ written (facts_of b).counters
    file true h = refl
    file false h = absurd (omega arith)

-- ---- Permits

-- what is answered other than 1 is answered of a good buffer
answered_good : (b : List ℕ) (c : Call) → (call_answer b c).number ≢ 1 → good b ≡ true
unfolding call_answer
answered_good b c n = go (good b) refl n
  where
    go : (x : Bool) → good b ≡ x → (cond x (ruling (view b) c) (answer 1 0)).number ≢ 1 → x ≡ true
    go true e z = refl
    go false e z = absurd (z refl)

-- a call that sends request q at t, by its permit or by the gate's order: it is no refusal, and is
-- added to the lists of q
sends_not_1 : {t m q : ℕ} {c : Call} → Sends t c m q → m ≢ 1
sends_not_1 by_permit z = omega arith
sends_not_1 by_order z = omega arith

sends_adds : {t m q : ℕ} {c : Call} → Sends t c m q → (a : Answer) → a.number ≡ m → (k : Kind) → adds k c a ≡ cond (goes q k) (t ∷ []) []
unfolding adds enters
sends_adds by_permit a e k = rw e
sends_adds by_order a e k = rw e

module _ (b : List ℕ) (t q : ℕ) (c : Call) (r : Answer) (x : List ℕ) (s : Says b c r x) (h : Sends t c r.number q) where
  g : good b ≡ true
  g = answered_good b c (λ z. sends_not_1 h (ap (λ (a : Answer). a.number) s.answered ∙ z))

  is : ruling (view b) c ≡ r
  is = sym (answer_is b g c (ruling (view b) c) refl) ∙ sym s.answered

  row_is : (k : Kind) → row x (place k) ≡ newest (row b (place k) ++ cond (goes q k) (t ∷ []) [])
  unfolding step short learn
  row_is k =
      ap (λ (y : List ℕ). (view y).lists k) (s.left ∙ after_is b g c (ruling (view b) c) refl)
      ∙ ap (λ (w : State). w.lists k) (view_lay_valid (step (view b) c) (keep (view b) (valid_view b g) c))
      ∙ ap (λ (l : List ℕ). newest (row b (place k) ++ l)) (sends_adds h (ruling (view b) c) (ap (λ (a : Answer). a.number) is) k)

  -- what is sent is added to each of its lists, and to no other
  pub send_grows : Grows b t q x
  send_grows = record {
    added = λ k e. row_is k ∙ rw e;
    others = λ k e. row_is k ∙ rw (e, append-nil) (newest_all (row b (place k)) (lists_short b g k));
  }
