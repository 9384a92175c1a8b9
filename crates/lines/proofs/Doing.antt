-- What a line says, done: by the tests that the code makes. Assumes nothing.
use Prim.Native.Nat.{ℕ, ◌≤◌, ◌<◌}
use mathlib.Core.Path.{◌≡◌, refl, sym, ap, ◌∙◌}
use mathlib.Core.Bool.{true, false, cond}
use mathlib.Core.List.{List, [], ◌∷◌, ◌++◌}
use mathlib.Core.Logic.{◌≢◌}
use native.Mathlib.Omega.{arith}
use lib.ListN.{length, get_or, take, drop, replicate}
use lib.Seq.{drop-drop, take_all}
use borrow.Author.Tests.{eq-eqb, ne_eqb, le-leb, lt-leb}
use Rattle.rules.specs.declared.Answer.{Answer}
use Rattle.rules.specs.Calls.{Call, timed, typed}
use Rattle.buffer.specs.Segments.{paste, pad}
use Rattle.clock.specs.Call.{Says}
use Rattle.opening.specs.Open.{Order, OpenSays}
use Rattle.at.specs.Lines.{read_line}
use Rattle.std.specs.Prelude.{Option, Some, None}
use Rattle.rows.specs.declared.Span.{Span}
use Rattle.calls.specs.Letters.{how_many, event_of, letter_a}
use Rattle.lines.specs.Trace.{Said, opens, calls, wrong, comma, cr, highest, highest_byte, longest, timed_line, typed_line, Ending, ending, no_ending, ending_of, opens_by, open_line, letter_o, by_letter, read_trace, said_by, highest_imsi}
use Rattle.rows.specs.Rows.{fields, ended, begins, space, field, if_number, if_numbers, if_exactly}
use Rattle.rows.specs.Rows.{row_of}
use Rattle.lines.specs.Line.{Done, printed, print_of, room_for, LineSays}
use Rattle.rows.proofs.Reading.{ended_end, ended_not}
use Rattle.text.specs.Number.{part_of}
use Rattle.text.specs.declared.Num.{Num}
use Rattle.rows.proofs.Rows.{number_none, number_some, numbers_none, numbers_some, exactly_none, exactly_not, exactly_so}
use Rattle.lines.proofs.Filing.{filled}

-- ---- Each kind of answer

module _ {b : List ℕ} {w : Said} where
  pub done_wrong : w ≡ wrong → Done b w None b
  done_wrong e = rw e (record { gave = refl; left = refl })

  pub done_call : {c : Call} {a : Answer} {x : List ℕ} → w ≡ calls c → Says b c a x → Done b w (Some a) x
  done_call {c} e s = rw e (record { gave = ap (λ (r : Answer). Some r) s.answered; left = s.left })

  pub done_open : {o : Order} {a : Answer} {x : List ℕ} → w ≡ opens o → OpenSays b o a x → Done b w (Some a) x
  done_open e s = rw e (record { gave = ap (λ (r : Answer). Some r) s.answered; left = s.left })

-- ---- A timed line

abbrev timed_by : ℕ → List ℕ → List ℕ → Said
timed_by x n rest = cond (ended rest) (calls (timed (get_or n 0 0) (event_of x n))) wrong

module _ (x : ℕ) (line v : List ℕ) (r : Option Span) (e : row_of line r v ≡ fields space highest 5 (drop 1 line)) where
  pub timed_none : r ≡ None → timed_line x (drop 1 line) ≡ wrong
  unfolding timed_line
  timed_none h = exactly_none wrong (how_many x) line v r e (timed_by x) h

  module _ (s : Span) (h : r ≡ Some s) (few : s.count ≤ length v) where
    pub timed_other : s.count ≢ how_many x → timed_line x (drop 1 line) ≡ wrong
    unfolding timed_line
    timed_other n = exactly_not wrong (how_many x) line v r e (timed_by x) s h few n

    module _ (n : s.count ≡ how_many x) where
      timed_so : timed_line x (drop 1 line) ≡ timed_by x (take s.count v) (drop s.next line)
      unfolding timed_line
      timed_so = exactly_so wrong (how_many x) line v r e (timed_by x) s h few n

      pub timed_more : s.next < length line → timed_line x (drop 1 line) ≡ wrong
      timed_more p = timed_so ∙ rw (ended_not line s.next p)

      pub timed_all : length line ≤ s.next → timed_line x (drop 1 line) ≡ calls (timed (get_or (take s.count v) 0 0) (event_of x (take s.count v)))
      timed_all p = timed_so ∙ rw (ended_end line s.next p)

-- ---- An AT line

module _ (line : List ℕ) where
  pub typed_none : begins space (drop 1 line) ≡ false → typed_line (drop 1 line) ≡ wrong
  unfolding typed_line
  typed_none e = rw e

  pub typed_some : begins space (drop 1 line) ≡ true → typed_line (drop 1 line) ≡ calls (typed (read_line (drop 2 line ++ (cr ∷ []))))
  unfolding typed_line
  typed_some e = rw (e, drop-drop 1 1 line)

-- ---- The ending of an opening

abbrev housed : List ℕ → List ℕ → List ℕ → List ℕ → Ending
housed p q n l = cond (ended l) (ending (pad 32 p) (pad 6 q) (get_or n 0 0) (get_or n 1 0)) no_ending

abbrev pub rated : List ℕ → List ℕ → List ℕ → Ending
rated p q l = if_exactly no_ending 2 (fields space highest 2 l) (housed p q)

abbrev pub parametered : List ℕ → List ℕ → Ending
parametered p l = if_exactly no_ending 3 (fields comma highest_byte 3 l) (rated p)

module _ (line p : List ℕ) (i : ℕ) (r : Option Span) (e : row_of line r p ≡ fields comma highest_byte 6 (drop i line)) where
  pub no_parameters : r ≡ None → no_ending ≡ ending_of (drop i line)
  unfolding ending_of
  no_parameters h = sym (exactly_none no_ending 6 line p r e parametered h)

  module _ (s : Span) (h : r ≡ Some s) (few : s.count ≤ length p) where
    pub other_parameters : s.count ≢ 6 → no_ending ≡ ending_of (drop i line)
    unfolding ending_of
    other_parameters n = sym (exactly_not no_ending 6 line p r e parametered s h few n)

    pub first : s.count ≡ 6 → length p ≡ 6 → parametered p (drop s.next line) ≡ ending_of (drop i line)
    unfolding ending_of
    first n k = sym (exactly_so no_ending 6 line p r e parametered s h few n ∙ ap (λ (l : List ℕ). parametered l (drop s.next line)) (take_all s.count p (omega arith)))

module _ (line p q : List ℕ) (i : ℕ) {x : Ending} (r : Option Span) (e : row_of line r q ≡ fields comma highest_byte 3 (drop i line)) (o : parametered p (drop i line) ≡ x) where
  pub no_rates : r ≡ None → no_ending ≡ x
  no_rates h = sym (exactly_none no_ending 3 line q r e (rated p) h) ∙ o

  module _ (s : Span) (h : r ≡ Some s) (few : s.count ≤ length q) where
    pub other_rates : s.count ≢ 3 → no_ending ≡ x
    other_rates n = sym (exactly_not no_ending 3 line q r e (rated p) s h few n) ∙ o

    pub second : s.count ≡ 3 → length q ≡ 3 → rated p q (drop s.next line) ≡ x
    second n k = sym (exactly_so no_ending 3 line q r e (rated p) s h few n ∙ ap (λ (l : List ℕ). rated p l (drop s.next line)) (take_all s.count q (omega arith))) ∙ o

module _ (line p q n : List ℕ) (i : ℕ) {x : Ending} (r : Option Span) (e : row_of line r n ≡ fields space highest 2 (drop i line)) (o : rated p q (drop i line) ≡ x) where
  pub no_limits : r ≡ None → no_ending ≡ x
  no_limits h = sym (exactly_none no_ending 2 line n r e (housed p q) h) ∙ o

  module _ (s : Span) (h : r ≡ Some s) (few : s.count ≤ length n) where
    pub other_limits : s.count ≢ 2 → no_ending ≡ x
    other_limits m = sym (exactly_not no_ending 2 line n r e (housed p q) s h few m) ∙ o

    module _ (m : s.count ≡ 2) (two : length n ≡ 2) where
      third : housed p q n (drop s.next line) ≡ x
      third = sym (exactly_so no_ending 2 line n r e (housed p q) s h few m ∙ ap (λ (l : List ℕ). housed p q l (drop s.next line)) (take_all s.count n (omega arith))) ∙ o

      pub not_ended : s.next < length line → no_ending ≡ x
      not_ended k = sym (rw (ended_not line s.next k)) ∙ third

      pub ending_all : length line ≤ s.next → ending (paste (replicate 32 0) 0 p) (paste (replicate 6 0) 0 q) (get_or n 0 0) (get_or n 1 0) ≡ x
      ending_all k = rw (filled 32 p, filled 6 q) (sym (rw (ended_end line s.next k)) ∙ third)

-- ---- An opening

abbrev with_intervals : ℕ → ℕ → List ℕ → List ℕ → Said
with_intervals t i xs l = opens_by t i xs (ending_of l)

abbrev pub with_imsi : ℕ → ℕ → List ℕ → Said
with_imsi t i l = if_numbers wrong (fields comma highest 128 l) (with_intervals t i)

abbrev pub with_time : ℕ → List ℕ → Said
with_time t l = if_number wrong (field highest_imsi l) (with_imsi t)

module _ (line : List ℕ) (r : Option Num) (e : part_of line r ≡ field highest (drop 1 line)) where
  pub open_no_time : r ≡ None → open_line (drop 1 line) ≡ wrong
  unfolding open_line
  open_no_time h = number_none wrong line r e with_time h

  pub open_time : (t : Num) → r ≡ Some t → open_line (drop 1 line) ≡ with_time t.value (drop t.next line)
  unfolding open_line
  open_time t h = number_some wrong line r e with_time t h

module _ (line : List ℕ) (t i : ℕ) {w : Said} (r : Option Num) (e : part_of line r ≡ field highest_imsi (drop i line)) (o : w ≡ with_time t (drop i line)) where
  pub open_no_imsi : r ≡ None → w ≡ wrong
  open_no_imsi h = o ∙ number_none wrong line r e (with_imsi t) h

  pub open_imsi : (n : Num) → r ≡ Some n → w ≡ with_imsi t n.value (drop n.next line)
  open_imsi n h = o ∙ number_some wrong line r e (with_imsi t) n h

module _ (line : List ℕ) (t n i : ℕ) {w : Said} (xs : List ℕ) (r : Option Span) (e : row_of line r xs ≡ fields comma highest 128 (drop i line)) (o : w ≡ with_imsi t n (drop i line)) where
  pub open_no_intervals : r ≡ None → w ≡ wrong
  open_no_intervals h = o ∙ numbers_none wrong line xs r e (with_intervals t n) h

  pub open_intervals : (s : Span) → r ≡ Some s → {y : Ending} → y ≡ ending_of (drop s.next line) → w ≡ opens_by t n (take s.count xs) y
  open_intervals s h k = o ∙ numbers_some wrong line xs r e (with_intervals t n) s h ∙ ap (opens_by t n (take s.count xs)) (sym k)

-- ---- A line by its first byte

module _ (line : List ℕ) where
  pub said_long : longest < length line → said_by line ≡ wrong
  unfolding said_by
  said_long h = rw (lt-leb (length line) longest h)

  module _ (short : length line ≤ longest) where
    pub said_empty : length line ≡ 0 → said_by line ≡ wrong
    unfolding said_by read_trace
    said_empty z = rw (le-leb (length line) longest short) (empty line z)
      where
        empty : (l : List ℕ) → length l ≡ 0 → read_trace l ≡ wrong
        empty [] z = refl
        empty (x ∷ l) z = absurd (omega arith)

    module _ (n : length line ≢ 0) where
      said_letter : said_by line ≡ by_letter (get_or line 0 0) (drop 1 line)
      unfolding said_by read_trace
      said_letter = rw (le-leb (length line) longest short) (letter line n)
        where
          letter : (l : List ℕ) → length l ≢ 0 → read_trace l ≡ by_letter (get_or l 0 0) (drop 1 l)
          letter [] m = absurd (m refl)
          letter (x ∷ l) m = refl

      pub said_open : get_or line 0 0 ≡ letter_o → said_by line ≡ open_line (drop 1 line)
      unfolding by_letter
      said_open e = said_letter ∙ rw (eq-eqb _ _ e)

      module _ (o : get_or line 0 0 ≢ letter_o) where
        pub said_typed : get_or line 0 0 ≡ letter_a → said_by line ≡ typed_line (drop 1 line)
        unfolding by_letter
        said_typed e = said_letter ∙ rw (ne_eqb _ _ o, eq-eqb _ _ e)

        pub said_timed : get_or line 0 0 ≢ letter_a → said_by line ≡ timed_line (get_or line 0 0) (drop 1 line)
        unfolding by_letter
        said_timed a = said_letter ∙ rw (ne_eqb _ _ o, ne_eqb _ _ a)

-- ---- The answer printed

module _ {b line room : List ℕ} where
  pub line_done : {r : Option Answer} {x y : List ℕ} {k : ℕ} → room_for ≤ length room → Done b (said_by line) r x → y ≡ paste room 0 (printed r) → k ≡ length (printed r) → LineSays b line room k x y
  unfolding print_of
  line_done {r} h d w n =
      let e = le-leb room_for (length room) h in
      let g = d.gave in
      record {
        counted = n ∙ (ap (λ (s : Option Answer). length (printed s)) g ∙ rw e);
        left = d.left ∙ rw e;
        written = w ∙ (ap (λ (s : Option Answer). paste room 0 (printed s)) g ∙ rw e);
      }

  pub line_room : length room < room_for → LineSays b line room 0 b room
  line_room h = let e = lt-leb room_for (length room) h in record { counted = rw e; left = rw e; written = rw e }
