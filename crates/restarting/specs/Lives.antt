-- A life: a state with a journal, from an image and an erased area on, through calls, cuts of the
-- power at any byte and restarts, by the calls' own promises. And what is promised of it. Assumes
-- nothing.
use Rattle.std.specs.Prelude.{◌≡◌, Bool, true, false, cond, not, ◌&&◌, List, [], ◌∷◌, ◌++◌, map, ℕ, ◌<◌, ltb, length, replicate}
use Rattle.rules.specs.declared.Answer.{Answer}
use Rattle.rules.specs.declared.Event.{Event}
use Rattle.rules.specs.Calls.{answer}
use Rattle.rules.specs.Rules.{refused}
use Rattle.buffer.specs.Places.{SIZE}
use Rattle.clock.specs.Call.{call_after}
use Rattle.image.specs.Image.{Words}
use Rattle.gate.specs.History.{Doing, calls, Run}
use Rattle.journal.specs.Area.{AREA, slots, free, CutAppend, Dips}
use Rattle.records.specs.Records.{Noted, times, types, arguments_of, call_of}
use Rattle.keeping.specs.Keeping.{answer_at, record_at, appends, appended, heard, Journals, JournalsLine}
use Rattle.restarting.specs.Restarting.{RestartSays}

-- the bytes r are the record that the gate writes of a call at the buffer b, which accepts it; x is
-- the buffer after that call
pub data Wrote (b r : List ℕ) : List ℕ → Type 0 where
  wrote : (n : Noted) → refused (answer_at b n) ≡ false → r ≡ record_at b n → Wrote b r (call_after b (call_of n))

-- what C's types say of a call: its numbers have 32 bits; a line is any bytes
abbrev pub Sized : Noted → Type 0
Sized (times t e) = Words (t ∷ arguments_of e)
Sized (types l) = Unit {0}

-- one more, or none
abbrev pub plus : {A : Type 0} → List A → Bool → A → List A
plus l b x = l ++ cond b (x ∷ []) []

-- The state s and the area a after a life that began with the image, and the calls that are in the
-- journal, the oldest first, with their answers. Premises of §8 are its lines: after a cut nothing
-- is called before restart has come to its end, and restart is given the image that the journal was
-- begun with
pub data Lived (image : List ℕ) : (s a : List ℕ) → List Noted → List Answer → Type 0 where
  -- an image and an erased area
  begun : Lived image image (replicate AREA 255) [] []
  -- a request, an outcome or the clock call has returned, whatever it answered
  called : {s a x y : List ℕ} {ns : List Noted} {rs : List Answer} (t : ℕ) (e : Event) (r : Answer) → Lived image s a ns rs
      → Sized (times t e) → Journals s a (times t e) r x y
      → Lived image x y (plus ns (appends s a (times t e)) (times t e)) (plus rs (appends s a (times t e)) r)
  -- an AT line has returned, whatever it answered
  obeyed : {s a x y z : List ℕ} {ns : List Noted} {rs : List Answer} (line room : List ℕ) (r : Answer) → Lived image s a ns rs
      → JournalsLine s a line room r x y z
      → Lived image x y (plus ns (heard room && appends s a (types line)) (types line)) (plus rs (heard room && appends s a (types line)) r)
  -- the power was cut in a call: after some number of the 128 stores of its append, none and all
  -- among them. Restart was cut in its filling, as often as may be. Then it came to its end, on a
  -- state of any contents
  cut : {s a b c z x y : List ℕ} {ns : List Noted} {rs : List Answer} (n : Noted) (r : Answer) → Lived image s a ns rs
      → Sized n → appends s a n ≡ true → (k : CutAppend a (free (slots a)) (record_at s n) b) → Dips b c
      → length z ≡ SIZE → RestartSays image c z r y x
      → Lived image x y (plus ns (not (ltb k.stores 128)) n) (plus rs (not (ltb k.stores 128)) (answer_at s n))
  -- the power was cut between two calls, and restart came to its end, on a state of any contents
  again : {s a z x y : List ℕ} {ns : List Noted} {rs : List Answer} (r : Answer) → Lived image s a ns rs
      → length z ≡ SIZE → RestartSays image a z r y x → Lived image x y ns rs

-- a call of the journal as a plain call
abbrev pub plain : Noted → Doing
plain n = calls (call_of n)

-- what restart finds: it answers 0, and leaves the state x and the area y
pub record Finds (image c : List ℕ) (x y : List ℕ) : Type 0 where
  pub finds : (z : List ℕ) → length z ≡ SIZE → (r : Answer) (x' y' : List ℕ) → RestartSays image c z r y' x'
      → (r ≡ answer 0 0) × (x' ≡ x) × (y' ≡ y)

pub record Stands (image s a : List ℕ) (ns : List Noted) (rs : List Answer) : Type 0 where
  -- the area has kept its length
  pub long : length a ≡ AREA
  -- the state is what the plain calls leave, from the image on: each call of the journal once, in
  -- its order, with the answer that it was given
  pub run : Run image (map plain ns) rs s
  -- restart finds that state, and leaves the area as it is
  pub restarts : Finds image a s a
  -- and after a cut in the next call that is appended, at any of its stores, and in any number of
  -- fillings: the state before that call, where a store is missing, or after it
  pub cut_before : (n : Noted) → Sized n → appends s a n ≡ true → (b c : List ℕ) (k : CutAppend a (free (slots a)) (record_at s n) b) → Dips b c
      → k.stores < 128 → Finds image c s a
  pub cut_after : (n : Noted) → Sized n → appends s a n ≡ true → (b c : List ℕ) (k : CutAppend a (free (slots a)) (record_at s n) b) → Dips b c
      → k.stores ≡ 128 → Finds image c (call_after s (call_of n)) (appended s a n)
