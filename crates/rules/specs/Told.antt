-- The rules over the record: what it tells, all at once; the record that calls leave, each answered over the record before it. Nothing
-- here steps from state to state: what is known comes from the record alone. Assumes nothing.
use Rattle.std.specs.Prelude.{ℕ, ◌≤◌, ◌≡◌, cond, List, [], ◌∷◌, get_or}
use Rattle.rules.specs.declared.Answer.{Answer}
use Rattle.rules.specs.Calls.{Counter, Call, Entry, entry}
use Rattle.rules.specs.Tables.{Kind, four, six, of_six}
use Rattle.rules.specs.Record.{last_time, nfm_now, start_now, intervals_now, permits, failures, back_off_end, standing, mood, due_now, counter}
use Rattle.rules.specs.Rules.{ruling, refused, known}
use Rattle.rules.specs.State.{State}

unfoldable pub tells : State → List Entry → State
tells g past = record {
  facts = record {
    opening = g.facts.opening;
    mode = record { nfm = nfm_now g past; start = start_now g past; intervals = intervals_now g past };
    last = last_time g past;
    counters = six (λ k. counter g k past);
    services = record {
      failures = four (λ s. failures g s past);
      ends = four (λ s. back_off_end g s past);
      standing = four (λ s. standing g s past);
      mood = mood g past;
    };
    due = due_now g past;
  };
  lists = λ k. permits g k past;
}

-- the answer that the rules give over the record
abbrev pub ruled : State → List Entry → Call → Answer
ruled g past c = ruling (tells g past) c

-- a refused call is no part of the record
abbrev pub entered : Call → Answer → List Entry → List Entry
entered c a past = cond (refused a) past (entry c a ∷ past)

-- the record after the calls cs, from the record `past` on, and the answers to them
abbrev pub onward : State → List Entry → List Call → List Entry
onward g past [] = past
onward g past (c ∷ cs) = onward g (entered c (ruled g past c) past) cs

abbrev pub ruled_all : State → List Entry → List Call → List Answer
ruled_all g past [] = []
ruled_all g past (c ∷ cs) = ruled g past c ∷ ruled_all g (entered c (ruled g past c) past) cs

-- the full record since the start
abbrev pub told : State → List Call → List Entry
told g cs = onward g [] cs

-- ---- Each thing that is known after the calls cs is what their record tells

pub record AsTold (g : State) (cs : List Call) : Type 0 where
  pub last : (known g cs).facts.last ≡ last_time g (told g cs)
  pub nfm : (known g cs).facts.mode.nfm ≡ nfm_now g (told g cs)
  pub start_timer : (known g cs).facts.mode.start ≡ start_now g (told g cs)
  pub base_intervals : (known g cs).facts.mode.intervals ≡ intervals_now g (told g cs)
  pub permit_times : (k : Kind) → (known g cs).lists k ≡ permits g k (told g cs)
  pub failures_in_a_row : (s : ℕ) → s ≤ 3 → get_or (known g cs).facts.services.failures s 0 ≡ failures g s (told g cs)
  pub ends : (s : ℕ) → s ≤ 3 → get_or (known g cs).facts.services.ends s 0 ≡ back_off_end g s (told g cs)
  pub standings : (s : ℕ) → s ≤ 3 → get_or (known g cs).facts.services.standing s 0 ≡ standing g s (told g cs)
  pub pdp_mood : (known g cs).facts.services.mood ≡ mood g (told g cs)
  pub due_time : (known g cs).facts.due ≡ due_now g (told g cs)
  pub counters : (k : Counter) → of_six (known g cs).facts.counters k ≡ counter g k (told g cs)
