-- A record's meaning at a buffer: of the call's own record it is the call, of any other there is
-- none. Assumes nothing.
use mathlib.Core.Path.{◌≡◌, refl, sym, ap, ◌∙◌}
use mathlib.Core.Bool.{Bool, true, false, cond, not, ◌&&◌, false≢true}
use mathlib.Core.List.{List, [], ◌∷◌}
use mathlib.Core.Logic.{◌≢◌}
use Rattle.std.specs.Prelude.{Option, Some, None}
use Prim.Native.Nat.{ℕ, ◌+◌, ◌-◌, ◌≤◌, ◌<◌}
use native.Mathlib.Omega.{arith}
use lib.ListN.{length, get_or, take, drop, length-take}
use lib.Seq.{length-take-le}
use borrow.Author.Tests.{eq-eqb, ne_eqb, le-leb, lt-leb}
use Rattle.rules.specs.declared.Answer.{Answer}
use Rattle.rules.specs.declared.Event.{Event}
use Rattle.rules.specs.Calls.{timed}
use Rattle.rules.specs.Rules.{refused}
use Rattle.buffer.specs.Good.{good}
use Rattle.clock.specs.Call.{call_after, Says}
use Rattle.clock.proofs.Saying.{good_after}
use Rattle.image.specs.Image.{image_of}
use Rattle.calls.specs.Letters.{letter_a, how_many, event_of}
use Rattle.calls.proofs.Letters.{many_few}
use Rattle.records.specs.Records.{Noted, times, types, call_of, packed, encoded, Fits, numbers_in, timed_by, line_by, parsed, same}
use Rattle.records.proofs.Records.{same_self, encoded_long, encoded_first, encoded_last, parsed_back, spelled}
use Rattle.journal.specs.Area.{Record}
use Rattle.keeping.specs.Keeping.{answer_at, record_at}
use Rattle.restarting.specs.Restarting.{writes, step_by, step, Answers}

-- the record that the gate would write may be appended
pub record_of : (b : List ℕ) (n : Noted) → Fits n → Record (record_at b n)
record_of b n f = record { long = encoded_long n (answer_at b n) f; first = encoded_first n (answer_at b n); last = encoded_last n (answer_at b n) f }

-- its meaning is the call
pub step_call : (b : List ℕ) (n : Noted) → Fits n → refused (answer_at b n) ≡ false → step b (record_at b n) ≡ Some (call_after b (call_of n))
unfolding step step_by writes
step_call b n f h = rw (parsed_back n (answer_at b n) f, same_self (record_at b n), h)

-- a record by what its call answers and leaves
module _ (b r : List ℕ) (n : Noted) (a : Answer) (x : List ℕ) (s : Says b (call_of n) a x) (g : good b ≡ true) where
  means : step_by b r (Some n) ≡ cond (same (encoded n a) r && not (refused a)) (Some x) None
  unfolding step_by writes
  means = rw (← s.answered, ← s.left)

  stays : good x ≡ true
  stays = rw s.left (good_after b (call_of n) g)

  pub redo_refused : refused a ≡ true → Answers (step_by b r (Some n)) false x
  redo_refused h = record { on = λ z. absurd (false≢true z); off = λ z. means ∙ rw h (go (same (encoded n a) r)); fit = stays }
    where
      go : (y : Bool) → cond (y && false) (Some x) None ≡ None
      go true = refl
      go false = refl

  pub redo_same : refused a ≡ false → (y : Bool) → y ≡ same (encoded n a) r → Answers (step_by b r (Some n)) y x
  redo_same h y e = record { on = λ z. means ∙ rw (h, ← e, z); off = λ z. means ∙ rw (← e, z); fit = stays }

-- bytes that are of no call
pub redo_none : (b r : List ℕ) → good b ≡ true → (o : Option Noted) → o ≡ None → Answers (step_by b r o) false b
unfolding step_by
redo_none b r g o e = record { on = λ z. absurd (false≢true z); off = λ z. rw e; fit = g }

-- which call the bytes are taken for

pub timed_none : (x : ℕ) (v : List ℕ) → how_many x ≡ 0 → timed_by x v ≡ None
unfolding timed_by
timed_none x v e = rw e

pub timed_some : (x : ℕ) (v : List ℕ) → how_many x ≢ 0 → Some (times (get_or v 0 0) (event_of x v)) ≡ timed_by x v
unfolding timed_by
timed_some x v h = rw (ne_eqb (how_many x) 0 h)

pub line_none : (n : ℕ) (l : List ℕ) → 96 < n → line_by n l ≡ None
unfolding line_by
line_none n l h = rw (lt-leb n 96 h)

pub line_some : (n : ℕ) (l : List ℕ) → n ≤ 96 → Some (types (take n l)) ≡ line_by n l
unfolding line_by
line_some n l h = rw (le-leb n 96 h)

pub begins_line : (r : List ℕ) → get_or r 0 0 ≡ letter_a → line_by (get_or (numbers_in 1 r) 0 0) (drop 5 r) ≡ parsed r
unfolding parsed
begins_line r e = rw (eq-eqb (get_or r 0 0) letter_a e)

pub begins_timed : (r : List ℕ) → get_or r 0 0 ≢ letter_a → timed_by (get_or r 0 0) (numbers_in (how_many (get_or r 0 0)) r) ≡ parsed r
unfolding parsed
begins_timed r h = rw (ne_eqb (get_or r 0 0) letter_a h)

-- ---- What the code has read, done and written

module _ (b r : List ℕ) (g : good b ≡ true) (x : ℕ) (v : List ℕ) (many : length v ≡ how_many x) (begins : how_many x ≢ 0) (read : v ≡ numbers_in (how_many x) r)
    (e : Event) (is : e ≡ event_of x v) (a : Answer) (s : List ℕ) (said : Says b (timed (get_or v 0 0) e) a s) where
  read_so : Some (times (get_or v 0 0) (event_of x v)) ≡ timed_by x (numbers_in (how_many x) r)
  read_so = timed_some x v begins ∙ ap (λ (w : List ℕ). timed_by x w) read

  said_so : Says b (timed (get_or v 0 0) (event_of x v)) a s
  said_so = rw is at said

  pub timed_refused : refused a ≡ true → Answers (step_by b r (timed_by x (numbers_in (how_many x) r))) false s
  timed_refused h = rw (← read_so) (redo_refused b r (times (get_or v 0 0) (event_of x v)) a s said_so g h)

  pub timed_same : refused a ≡ false → (own : List ℕ) → own ≡ packed x (image_of v) a → (y : Bool) → y ≡ same own r
      → Answers (step_by b r (timed_by x (numbers_in (how_many x) r))) y s
  timed_same h own w y q =
      rw (← read_so)
      (redo_same b r (times (get_or v 0 0) (event_of x v)) a s said_so g h y (q ∙ ap (λ (o : List ℕ). same o r) (w ∙ sym (spelled x v many begins a))))

-- an AT line's bytes, as they are lent: from place 5 on, to 5 and so many
module _ (b r : List ℕ) (v : List ℕ) (read : v ≡ numbers_in 1 r) (few : get_or v 0 0 ≤ 96) where
  pub text_short : length (take (5 + get_or v 0 0 - 5) (drop 5 r)) ≤ 96
  text_short = simp length-take (omega arith)

  pub line_as : (y : Bool) (x : List ℕ) → Answers (step_by b r (Some (types (take (5 + get_or v 0 0 - 5) (drop 5 r))))) y x
      → Answers (step_by b r (line_by (get_or (numbers_in 1 r) 0 0) (drop 5 r))) y x
  line_as y x s =
      let e : 5 + get_or v 0 0 - 5 ≡ get_or v 0 0 = omega arith in
      rw (← read) (rw (e, line_some (get_or v 0 0) (drop 5 r) few) at s)

-- the first n of five numbers
pub of_five : (x n : ℕ) → n ≡ how_many x → length (take {A = ℕ} n (0 ∷ 0 ∷ 0 ∷ 0 ∷ 0 ∷ [])) ≡ n
of_five x n e = length-take-le {A = ℕ} n (0 ∷ 0 ∷ 0 ∷ 0 ∷ 0 ∷ []) (omega (arith, e, many_few x))
