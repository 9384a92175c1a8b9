-- The ways out of a journaled AT line. Assumes nothing.
use mathlib.Core.Path.{◌≡◌, refl, sym, ap, ◌∙◌}
use mathlib.Core.Bool.{Bool, true, false, cond, false≢true}
use mathlib.Core.List.{List}
use mathlib.Core.Logic.{◌≢◌}
use Prim.Native.Nat.{ℕ, ◌≤◌}
use lib.ListN.{length}
use borrow.Author.Tests.{eq-eqb, ne_eqb, le-leb}
use Rattle.std.specs.Prelude.{Result, is_ok}
use Rattle.rules.specs.declared.Answer.{Answer}
use Rattle.rules.specs.Calls.{answer, typed, Line, nfm, nfm_start, intervals, query, bad}
use Rattle.rules.specs.Rules.{refused, refusal, verdict, ruling}
use Rattle.buffer.specs.Segments.{paste}
use Rattle.buffer.specs.Layout.{view, facts_of}
use Rattle.buffer.specs.Good.{good}
use Rattle.clock.specs.Call.{Says}
use Rattle.clock.proofs.Saying.{says_bad}
use Rattle.at.specs.Lines.{read_line}
use Rattle.at.proofs.RoundTrip.{accepted, read_accepted}
use Rattle.command.specs.Command.{reply}
use Rattle.journal.specs.declared.Full.{Full}
use Rattle.journal.specs.Area.{AREA, Appends}
use Rattle.records.specs.Records.{types, encoded}
use Rattle.keeping.specs.Keeping.{answer_at, roomy, appends, Journals, heard, JournalsLine}
use Rattle.keeping.proofs.Calling.{foreseen, journal_short, journal_refused, journal_full, journal_done}
use Rattle.noting.specs.Noting.{line_answer}

-- ---- The answer, by the line alone

is_bad : Line → Bool
is_bad (nfm a) = false
is_bad (nfm_start a s) = false
is_bad (intervals l) = false
is_bad query = false
is_bad bad = true

-- a line is bad, or accepted
by_line : (line : List ℕ) {P : Type 0} → (read_line line ≡ bad → P) → (read_line line ≢ bad → P) → P
unfolding is_bad
by_line line {P} is not = go (read_line line) refl
  where
    other : (l : Line) → read_line line ≡ l → is_bad l ≡ false → P
    other l e f = not (λ z. false≢true (sym f ∙ ap is_bad (sym e ∙ z)))

    go : (l : Line) → read_line line ≡ l → P
    go (nfm a) e = other (nfm a) e refl
    go (nfm_start a s) e = other (nfm_start a s) e refl
    go (intervals l) e = other (intervals l) e refl
    go query e = other query e refl
    go bad e = is e

verdict_line : (w : _) (l : Line) → verdict w (typed l) ≡ line_answer l
unfolding verdict
verdict_line w (nfm a) = refl
verdict_line w (nfm_start a s) = refl
verdict_line w (intervals l) = refl
verdict_line w query = refl
verdict_line w bad = refl

-- it is what the plain call answers
pub foreseen_line : (b : List ℕ) → good b ≡ true → (line : List ℕ) (r : Answer) → r ≡ line_answer (read_line line) → r ≡ answer_at b (types line)
unfolding ruling refusal
foreseen_line b g line r e =
    foreseen b g (types line) r
    (by_line line (λ z. e ∙ rw z)
    (λ z. e ∙ sym (rw (eq-eqb (refusal (view b).facts (typed (read_line line))) 0 (read_accepted line (view b).facts z)) (verdict_line (view b) (read_line line)))))

-- a line that is not refused fits a record
pub fits_line : (line : List ℕ) (r : Answer) → r ≡ line_answer (read_line line) → refused r ≡ false → length line ≤ 96
fits_line line r e h = by_line line (λ z. absurd (false≢true (sym h ∙ ap refused (e ∙ ap line_answer z)))) (λ z. (accepted line z).2)

pub accepted_fits : (b line : List ℕ) → refused (answer_at b (types line)) ≡ false → length line ≤ 96
accepted_fits b line h = go (good b) refl
  where
    go : (y : Bool) → good b ≡ y → length line ≤ 96
    go true g = fits_line line (line_answer (read_line line)) refl (ap refused (foreseen_line b g line (line_answer (read_line line)) refl) ∙ h)
    go false g = absurd (false≢true (sym h ∙ ap refused (sym (says_bad b (typed (read_line line)) g).answered)))

-- ---- The ways out

module _ (b a line room : List ℕ) where
  module _ (hears : 16 ≤ length room) where
    hearing : heard room ≡ true
    hearing = le-leb 16 (length room) hears

    -- with room for the answer it is as any journaled call
    lined : {r : Answer} {x y z : List ℕ} → Journals b a (types line) r x y
        → z ≡ cond (appends b a (types line)) (paste room 0 (reply (facts_of b) (read_line line))) room → JournalsLine b a line room r x y z
    lined j w = record { answered = rw hearing j.answered; left = rw hearing j.left; kept = rw hearing j.kept; told = rw hearing w }

    pub line_short : length a ≢ AREA → JournalsLine b a line room (answer 1 0) b a room
    unfolding appends
    line_short h = lined (journal_short b a (types line) h) (rw (ne_eqb (length a) AREA h))

    module _ (long : length a ≡ AREA) (r : Answer) (e : r ≡ answer_at b (types line)) where
      pub line_refused : refused r ≡ true → JournalsLine b a line room r b a room
      unfolding appends
      line_refused h =
          let g : refused (answer_at b (types line)) ≡ true = ap refused (sym e) ∙ h in
          lined (journal_refused b a (types line) long r e h) (rw (eq-eqb (length a) AREA long, g))

      module _ (h : refused r ≡ false) (y : List ℕ) (k : Result (Unit {0}) Full) (w : Appends a (encoded (types line) r) k y) where
        goes : refused (answer_at b (types line)) ≡ false
        goes = ap refused (sym e) ∙ h

        pub line_full : is_ok k ≡ false → JournalsLine b a line room (answer 6 0) b y room
        unfolding appends
        line_full f =
            let g : roomy a ≡ false = sym w.room ∙ f in
            lined (journal_full b a (types line) long r e h y k w f) (rw (eq-eqb (length a) AREA long, goes, g))

        pub line_done : is_ok k ≡ true → (q : Answer) (x z : List ℕ) → Says b (typed (read_line line)) q x
            → z ≡ paste room 0 (reply (facts_of b) (read_line line)) → JournalsLine b a line room q x y z
        unfolding appends
        line_done f q x z s t =
            let g : roomy a ≡ true = sym w.room ∙ f in
            lined (journal_done b a (types line) long r e h y k w f q x s) (t ∙ rw (eq-eqb (length a) AREA long, goes, g))

    -- a bad buffer is what it refuses first
    pub line_bad : length a ≡ AREA → good b ≡ false → JournalsLine b a line room (answer 1 0) b a room
    line_bad long g = line_refused long (answer 1 0) (says_bad b (typed (read_line line)) g).answered refl

-- with room for the answer, what a line promises is what any journaled call does; without, nothing
-- has changed
module _ {b a line room : List ℕ} {r : Answer} {x y z : List ℕ} (j : JournalsLine b a line room r x y z) where
  pub line_journals : heard room ≡ true → Journals b a (types line) r x y
  line_journals e = record { answered = j.answered ∙ rw e; left = j.left ∙ rw e; kept = j.kept ∙ rw e }

  pub line_stays : heard room ≡ false → (x ≡ b) × (y ≡ a)
  line_stays e = (j.left ∙ rw e, j.kept ∙ rw e)
