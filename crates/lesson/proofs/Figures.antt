-- C1 to C10, the printed trace and their neighbours, as one theorem over one list: on the buffer, and over the record. Assumes nothing.
use mathlib.Core.Path.{◌≡◌, refl, sym, ap, ◌∙◌, fun_ext}
use mathlib.Core.Bool.{Bool, true, ◌&&◌}
use mathlib.Core.List.{List, [], ◌∷◌, map}
use Prim.Native.Nat.{ℕ}
use lib.Dec.{eqb}
use lib.ListN.{get_or}
use borrow.Author.Tests.{eqb-true}
use Rattle.mixing.specs.Mixing.{mixed}
use Rattle.rules.specs.declared.Answer.{Answer}
use Rattle.rules.specs.Calls.{C_PDP_1, Call}
use Rattle.rules.specs.Causes.{printed, action, both}
use Rattle.rules.specs.Tables.{within, mood_on, wait_for, permanent, delay_for, ascending, of_six}
use Rattle.rules.specs.Record.{counter}
use Rattle.rules.specs.Rules.{limits, blocks, in_range, stands, refusal, runs, wait, failed, is_due, on_reset, orders, verdict, ruling, points, moved, counted, asked, on_granted, on_failed, on_outcome, due_on, acted, switched, obeyed, changed, enters, adds, learn, known, answers, short, step, held, held_answers}
use Rattle.rules.specs.State.{State, fresh}
use Rattle.rules.specs.Told.{tells, told}
use Rattle.rules.proofs.Checks.{and_left, and_right}
use Rattle.rules.proofs.RecordTells.{Begins, answers_told, as_told}
use Rattle.rules.proofs.Demand3.{Starts, held_told, held_answers_ruled}
use Rattle.buffer.specs.Layout.{lay, facts_of}
use Rattle.buffer.specs.Good.{at_most, bytes, every, valid}
use Rattle.buffer.proofs.Tests.{pick}
use Rattle.buffer.proofs.Goodness.{view_lay_valid}
use Rattle.buffer.proofs.Keep.{keep}
use Rattle.buffer.proofs.Starting.{valid_starts}
use Rattle.card.specs.Card.{blank, file, absent, good_or_absent, both_good, ruling_file, part, written}
use Rattle.clock.specs.Call.{call_after}
use Rattle.opening.specs.Open.{Order, Typed, settings, files, open_number, begun, given_by, open_after}
use Rattle.opening.proofs.Opened.{opened_valid}
use Rattle.gate.proofs.Demand3.{answer_lay, after_lay}
use Rattle.lesson.specs.Cases.{Case, Seen, answers_on, left_by, empty, seen_on_buffer, seen_over_record, cases, expected}

-- ---- Over the record

-- the same, run from state to state: this is what computes
abbrev ran : Case → Seen
ran c = let g = given_by c.from in record { given = answers g c.calls; pdp1 = of_six (known g c.calls).facts.counters C_PDP_1 }

-- a record may begin with a new buffer, accepted or not
begins : (o : Order) → Begins (given_by o)
unfolding begun fresh
begins o = record { counters = refl; failures = refl; ends = refl; standing = refl }

seen_ran : (c : Case) → seen_over_record c ≡ ran c
seen_ran c i =
    let g = given_by c.from in
    let h = begins c.from in
    record { given = sym (answers_told g h c.calls) i; pdp1 = sym ((as_told g h c.calls).counters C_PDP_1) i }

computed : map ran cases ≡ expected
unfolding mixed begun part both_good good_or_absent absent file blank ruling_file within printed action both mood_on wait_for limits blocks in_range stands refusal runs wait failed is_due on_reset orders verdict ruling points moved counted asked on_granted on_failed on_outcome permanent delay_for due_on acted switched obeyed changed enters adds learn fresh
computed = refl

pub figures_over_the_record : map seen_over_record cases ≡ expected
figures_over_the_record = ap (λ (f : Case → Seen). map f cases) (fun_ext seen_ran) ∙ computed

-- ---- On the buffer

answers_lay : (v : State) → valid v ≡ true → (cs : List Call) → answers_on (lay v) cs ≡ held_answers v cs
answers_lay v h [] = refl
answers_lay v h (c ∷ cs) =
    ap (λ (a : Answer). a ∷ answers_on (call_after (lay v) c) cs) (answer_lay v h c)
    ∙ ap (λ (b : List ℕ). ruling v c ∷ answers_on b cs) (after_lay v h c)
    ∙ ap (λ (l : List Answer). ruling v c ∷ l) (answers_lay (step v c) (keep v h c) cs)

left_lay : (v : State) → valid v ≡ true → (cs : List Call) → left_by (lay v) cs ≡ lay (held v cs)
left_lay v h [] = refl
left_lay v h (c ∷ cs) = ap (λ (b : List ℕ). left_by b cs) (after_lay v h c) ∙ left_lay (step v c) (keep v h c) cs

held_valid : (v : State) → valid v ≡ true → (cs : List Call) → valid (held v cs) ≡ true
held_valid v h [] = h
held_valid v h (c ∷ cs) = held_valid (step v c) (keep v h c) cs

-- an opening that is accepted, of files that are bytes
record Fine (o : Order) : Type 0 where
  typed : Typed o
  accepted : open_number empty o ≡ 0

-- the tests that say so
abbrev tests : Order → List Bool
tests o = bytes o.parameters ∷ bytes o.rates ∷ bytes o.counters ∷ bytes o.own_parameters ∷ bytes o.own_rates ∷ eqb (open_number empty o) 0 ∷ []

fine : (o : Order) → every (tests o) ≡ true → Fine o
fine o h =
    let test : (i : ℕ) → _ = λ i. pick (tests o) i h in
    record {
      typed = record { parameters = test 0; rates = test 1; counters = test 2; own_parameters = test 3; own_rates = test 4 };
      accepted = eqb-true (open_number empty o) 0 (test 5);
    }

module _ (c : Case) (f : Fine c.from) where
  g : State
  g = given_by c.from

  ok : valid g ≡ true
  unfolding g
  ok = opened_valid empty c.from f.accepted f.typed

  starts : Starts g
  starts = valid_starts g ok

  opened : open_after empty c.from ≡ lay g
  unfolding open_after g
  opened = rw f.accepted

  counters_same : (v : State) → valid v ≡ true → get_or (written (facts_of (lay v)).counters) 2 0 ≡ get_or v.facts.counters 2 0
  unfolding written
  counters_same v h = ap (λ (w : State). get_or w.facts.counters 2 0) (view_lay_valid v h)

  record_same : get_or (held g c.calls).facts.counters 2 0 ≡ counter g C_PDP_1 (told g c.calls)
  unfolding short tells
  record_same = ap (λ (w : State). get_or w.facts.counters 2 0) (held_told g starts c.calls)

  same : seen_on_buffer c ≡ seen_over_record c
  unfolding g
  same i = record {
    given = (ap (λ (b : List ℕ). answers_on b c.calls) opened ∙ answers_lay g ok c.calls ∙ held_answers_ruled g starts c.calls) i;
    pdp1 =
        (ap (λ (b : List ℕ). get_or (written (facts_of (left_by b c.calls)).counters) 2 0) opened
        ∙ ap (λ (b : List ℕ). get_or (written (facts_of b).counters) 2 0) (left_lay g ok c.calls)
        ∙ counters_same (held g c.calls) (held_valid g ok c.calls)
        ∙ record_same) i;
  }

abbrev AllFine : List Case → Type 0
AllFine [] = Unit {0}
AllFine (c ∷ cs) = Fine c.from × AllFine cs

all_same : (cs : List Case) → AllFine cs → map seen_on_buffer cs ≡ map seen_over_record cs
all_same [] h = refl
all_same (c ∷ cs) h = λ i. same c h.0 i ∷ all_same cs h.1 i

-- one test over the whole list
every_fine : List Case → Bool
every_fine [] = true
every_fine (c ∷ cs) = every (tests c.from) && every_fine cs

fine_every : (cs : List Case) → every_fine cs ≡ true → AllFine cs
unfolding every_fine
fine_every [] h = tt
fine_every (c ∷ cs) h = (fine c.from (and_left (every (tests c.from)) _ h), fine_every cs (and_right (every (tests c.from)) _ h))

all_fine : AllFine cases
unfolding every_fine at_most open_number settings files both_good good_or_absent absent file blank ascending
all_fine = fine_every cases refl

-- THE FIGURES
pub figures : map seen_on_buffer cases ≡ expected
figures = all_same cases all_fine ∙ figures_over_the_record
