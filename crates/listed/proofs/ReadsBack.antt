-- A printed line is a line of document 01's trace that says the very call of the record. Assumes
-- nothing.
use mathlib.Core.Path.{◌≡◌, refl, sym, ap, ◌∙◌}
use mathlib.Core.Bool.{true, false≢true}
use mathlib.Core.List.{List, [], ◌∷◌, ◌++◌, append_assoc}
use mathlib.Core.Logic.{◌≢◌}
use Prim.Native.Nat.{ℕ, zero, suc, ◌-◌, ◌*◌, ◌≤◌, ◌<◌}
use native.Mathlib.Omega.{arith}
use lib.ListN.{length, take, length-append, length-take}
use lib.Seq.{take_at}
use borrow.Author.Tests.{eq-eqb, ne_eqb, le-leb}
use Rattle.rules.specs.Calls.{Line, query, nfm, nfm_start, intervals, bad}
use Rattle.rules.specs.declared.Event.{Event}
use Rattle.rules.specs.declared.Event.TheVariants.{Ask as ask, Outcome as outcome, Dropped as dropped, Tick as tick}
use Rattle.rules.specs.declared.Outcome.TheVariants.{Granted as granted, Silent as silent, Rejected as rejected}
use Rattle.text.specs.Number.{got, num}
use Rattle.text.specs.Printed.{print_num}
use Rattle.text.proofs.Printed.{below, num_print}
use Rattle.text.proofs.Putting.{ten_digits}
use Rattle.image.specs.Image.{Words}
use Rattle.at.specs.Lines.{read_line, at_nfmci}
use Rattle.at.specs.Print.{print_line, print_ints}
use Rattle.at.proofs.RoundTrip.{accepted}
use Rattle.calls.specs.Letters.{letter_a, how_many}
use Rattle.rows.specs.Rows.{space, begins, ended, row, numbers, fields}
use Rattle.rows.proofs.Reading.{numbers_last, numbers_more}
use Rattle.lines.specs.Trace.{letter_o, cr, highest, calls, timed_line, typed_line, by_letter, read_trace, said_by}
use Rattle.records.specs.Records.{Noted, times, types, call_of, letter_of, arguments_of, Fits}
use Rattle.records.proofs.Records.{letter_many, letter_event, letter_other, numbers_few}
use Rattle.listing.specs.Listing.{fields_of, line_of, taken, acceptable}

-- ---- The numbers

-- no field is longer than a space and ten digits
fields_short : (l : List ℕ) → Words l → length (fields_of l) ≤ 11 * length l
unfolding fields_of
fields_short [] w = omega arith
fields_short (n ∷ l) w =
    let d = ten_digits n w.0 in
    let i = fields_short l w.1 in
    let e = length-append (print_num n) (fields_of l) in
    omega arith

-- a number and the fields behind it are read, with what was read before
numbers_back : (k n : ℕ) (l done : List ℕ) → length l < k → Words (n ∷ l) → numbers space highest k (print_num n ++ fields_of l) done ≡ row (done ++ (n ∷ l)) []
unfolding fields_of begins
numbers_back zero n l done h w = absurd (omega arith)
numbers_back (suc k) n [] done h w =
    numbers_last space highest (print_num n ++ []) done k n [] (num_print highest n [] (omega (arith, w.0)) (omega (arith, w.0)) tt) refl
numbers_back (suc k) n (m ∷ l) done h w =
    let rest : List ℕ = space ∷ (print_num m ++ fields_of l) in
    let read : num highest (print_num n ++ rest) ≡ got n rest
    = num_print highest n rest (omega (arith, w.0)) (omega (arith, w.0)) (below space (print_num m ++ fields_of l) (omega arith)) in
    numbers_more space highest (print_num n ++ rest) done k n rest read refl
    ∙ (numbers_back k m l (done ++ (n ∷ [])) (omega arith) w.1 ∙ ap (λ (d : List ℕ). row d []) (append_assoc done (n ∷ []) (m ∷ l)))

fields_back : (t : ℕ) (l : List ℕ) → length l < 5 → Words (t ∷ l) → fields space highest 5 (fields_of (t ∷ l)) ≡ row (t ∷ l) []
unfolding fields fields_of begins
fields_back t l h w = numbers_back 5 t l [] h w

-- ---- A timed call

letter_no_opening : (e : Event) → letter_of e ≢ letter_o
letter_no_opening (ask q) z = absurd (omega arith)
letter_no_opening (outcome s granted) z = absurd (omega arith)
letter_no_opening (outcome s silent) z = absurd (omega arith)
letter_no_opening (outcome s (rejected c d k)) z = absurd (omega arith)
letter_no_opening dropped z = absurd (omega arith)
letter_no_opening tick z = absurd (omega arith)

timed_back : (t : ℕ) (e : Event) → Fits (times t e) → said_by (line_of (times t e)) ≡ calls (call_of (times t e))
unfolding line_of said_by read_trace by_letter timed_line ended
timed_back t e w =
    let l : List ℕ = arguments_of e in
    let few = numbers_few t e in
    let short = fields_short (t ∷ l) w in
    rw (
      le-leb (suc (length (fields_of (t ∷ l)))) 256 (omega arith),
      ne_eqb (letter_of e) letter_o (letter_no_opening e),
      ne_eqb (letter_of e) letter_a (letter_other e),
      fields_back t l (omega arith) w,
      eq-eqb (length (t ∷ l)) (how_many (letter_of e)) (sym (letter_many t e)),
      letter_event t e,
    )

-- ---- An AT line

-- a byte behind others, taken off
off : (xs : List ℕ) (x : ℕ) → take (length (xs ++ (x ∷ [])) - 1) (xs ++ (x ∷ [])) ≡ xs
off xs x =
    let e : length (xs ++ (x ∷ [])) - 1 ≡ length xs = let l = length-append xs (x ∷ []) in omega arith in
    rw e (take_at xs (x ∷ []) (length xs) refl)

-- each line that the gate takes is closed by CR
closed : (o : Line) → taken o ≡ true → take (length (print_line o) - 1) (print_line o) ++ (cr ∷ []) ≡ print_line o
closed query h = refl
closed (nfm a) h = refl
closed (nfm_start a s) h = refl
closed (intervals l) h =
    let xs : List ℕ = at_nfmci ++ print_ints l in
    ap (λ (y : List ℕ). y ++ (cr ∷ [])) (off xs cr)
closed bad h = absurd (false≢true h)

line_back : (l : List ℕ) → taken (read_line l) ≡ true → take (length l - 1) l ++ (cr ∷ []) ≡ l
line_back l h =
    let not_bad : read_line l ≢ bad = λ z. absurd (false≢true (sym (ap taken z) ∙ h)) in
    let e : l ≡ print_line (read_line l) = (accepted l not_bad).1 in
    ap (λ (y : List ℕ). take (length y - 1) y ++ (cr ∷ [])) e ∙ (closed (read_line l) h ∙ sym e)

typed_back : (l : List ℕ) → Fits (types l) → taken (read_line l) ≡ true → said_by (line_of (types l)) ≡ calls (call_of (types l))
unfolding line_of said_by read_trace by_letter typed_line begins
typed_back l w h =
    let n = length-take (length l - 1) l in
    rw (le-leb (suc (suc (length (take (length l - 1) l)))) 256 (omega arith), line_back l h)

-- THE THEOREM. The line that is printed of a call that fits a record, without its two last fields,
-- says that very call in document 01's trace. Of an AT line that is so where the gate takes it.
pub reads_back : (n : Noted) → Fits n → acceptable n ≡ true → said_by (line_of n) ≡ calls (call_of n)
reads_back (times t e) w h = timed_back t e w
reads_back (types l) w h = typed_back l w h
