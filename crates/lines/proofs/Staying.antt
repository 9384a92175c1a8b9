-- A good buffer stays good, whatever line is answered on it. Assumes nothing.
use Prim.Native.Nat.{ℕ, zero, suc, ◌-◌}
use mathlib.Core.Path.{◌≡◌, refl, sym, subst}
use mathlib.Core.Bool.{true, cond}
use mathlib.Core.List.{List, [], ◌∷◌, ◌++◌}
use native.Mathlib.Omega.{arith}
use lib.Dec.{leb, eqb}
use lib.ListN.{length, get_or, replicate}
use borrow.Author.Tests.{eqb-true}
use Rattle.buffer.specs.Good.{at_most, bytes, good}
use Rattle.buffer.specs.Segments.{pad}
use Rattle.buffer.proofs.Goodness.{good_lay}
use Rattle.buffer.proofs.Keep.{at_most_cons, at_most_nil}
use Rattle.text.specs.Number.{Part, got, none}
use Rattle.clock.proofs.Saying.{good_after}
use Rattle.opening.specs.Open.{Order, Typed, open_number, open_after}
use Rattle.opening.proofs.Opened.{opened_valid}
use Rattle.text.proofs.Choice.{cond_by}
use Rattle.calls.specs.Letters.{letter_a, how_many}
use Rattle.lines.specs.Trace.{Said, opens, calls, wrong, comma, highest, highest_byte, highest_imsi, Ending, ending, no_ending, ending_of, opens_by, open_line, typed_line, timed_line, letter_o, by_letter, read_trace, said_by, longest}
use Rattle.rows.specs.Rows.{Row, row, no_row, fields, ended, space, field, if_number, if_numbers, if_exactly, begins}
use Rattle.rows.specs.Rows.{UpTo}
use Rattle.lines.specs.Line.{left_by, room_for, LineSays}
use Rattle.rows.proofs.Rows.{RowUpTo, fields_up_to}

-- ---- Bytes

up_to_bytes : (l : List ℕ) → UpTo highest_byte l → bytes l ≡ true
up_to_bytes [] u = at_most_nil highest_byte
up_to_bytes (x ∷ l) u = at_most_cons highest_byte x l (u 0 (omega arith)) (up_to_bytes l (λ i p. u (suc i) (omega arith)))

zeros_bytes : (n : ℕ) → bytes (replicate n 0) ≡ true
zeros_bytes zero = at_most_nil highest_byte
zeros_bytes (suc n) = at_most_cons highest_byte 0 (replicate n 0) (omega arith) (zeros_bytes n)

append_bytes : (l r : List ℕ) → UpTo highest_byte l → bytes r ≡ true → bytes (l ++ r) ≡ true
append_bytes [] r u h = h
append_bytes (x ∷ l) r u h = at_most_cons highest_byte x (l ++ r) (u 0 (omega arith)) (append_bytes l r (λ i p. u (suc i) (omega arith)) h)

pad_bytes : (n : ℕ) (l : List ℕ) → UpTo highest_byte l → bytes (pad n l) ≡ true
unfolding pad
pad_bytes n l u = append_bytes l (replicate (n - length l) 0) u (zeros_bytes (n - length l))

-- ---- What a line says has files of bytes

abbrev EndingTyped : Ending → Type 0
EndingTyped no_ending = Unit {0}
EndingTyped (ending p q a s) = (bytes p ≡ true) × (bytes q ≡ true)

abbrev SaidTyped : Said → Type 0
SaidTyped (opens o) = Typed o
SaidTyped (calls c) = Unit {0}
SaidTyped wrong = Unit {0}

module _ {A : Type 0} (P : A → Type 0) {z : A} (h : P z) where
  by_number : (x : Part) {go : ℕ → List ℕ → A} → ((v : ℕ) (l : List ℕ) → P (go v l)) → P (if_number z x go)
  by_number none f = h
  by_number (got v l) f = f v l

  by_numbers : (x : Row) {go : List ℕ → List ℕ → A} → ((n l : List ℕ) → P (go n l)) → P (if_numbers z x go)
  by_numbers no_row f = h
  by_numbers (row n l) f = f n l

  by_exactly : (most k : ℕ) (x : Row) {go : List ℕ → List ℕ → A} → RowUpTo most x → ((n l : List ℕ) → UpTo most n → P (go n l)) → P (if_exactly z k x go)
  by_exactly most k no_row u f = h
  by_exactly most k (row n l) {go} u f = cond_by P (eqb (length n) k) {x = go n l} {y = z} (λ _. f n l u) (λ _. h)

ending_typed : (l : List ℕ) → EndingTyped (ending_of l)
unfolding ending_of
ending_typed l =
    by_exactly EndingTyped tt highest_byte 6 (fields comma highest_byte 6 l) (fields_up_to comma highest_byte (omega arith) 6 l) (λ p l1 u.
    by_exactly EndingTyped tt highest_byte 3 (fields comma highest_byte 3 l1) (fields_up_to comma highest_byte (omega arith) 3 l1) (λ q l2 v.
    by_exactly EndingTyped tt highest 2 (fields space highest 2 l2) (fields_up_to space highest (omega arith) 2 l2) (λ n l3 w.
    cond_by EndingTyped (ended l3) {x = ending (pad 32 p) (pad 6 q) (get_or n 0 0) (get_or n 1 0)} {y = no_ending} (λ _. (pad_bytes 32 p u, pad_bytes 6 q v)) (λ _. tt))))

opens_typed : (t i : ℕ) (xs : List ℕ) (e : Ending) → EndingTyped e → SaidTyped (opens_by t i xs e)
unfolding at_most
opens_typed t i xs no_ending h = tt
opens_typed t i xs (ending p q a s) h = record { parameters = h.0; rates = h.1; counters = zeros_bytes 32; own_parameters = refl; own_rates = zeros_bytes 6 }

open_typed : (l : List ℕ) → SaidTyped (open_line l)
unfolding open_line
open_typed l =
    by_number SaidTyped tt (field highest l) (λ t l1.
    by_number SaidTyped tt (field highest_imsi l1) (λ i l2.
    by_numbers SaidTyped tt (fields comma highest 128 l2) (λ xs l3. opens_typed t i xs (ending_of l3) (ending_typed l3))))

timed_typed : (x : ℕ) (l : List ℕ) → SaidTyped (timed_line x l)
unfolding timed_line
timed_typed x l =
    by_exactly SaidTyped tt highest (how_many x) (fields space highest 5 l) (fields_up_to space highest (omega arith) 5 l)
    (λ n rest u. cond_by SaidTyped (ended rest) {y = wrong} (λ _. tt) (λ _. tt))

typed_typed : (l : List ℕ) → SaidTyped (typed_line l)
unfolding typed_line
typed_typed l = cond_by SaidTyped (begins space l) {y = wrong} (λ _. tt) (λ _. tt)

read_typed : (l : List ℕ) → SaidTyped (read_trace l)
unfolding read_trace by_letter
read_typed [] = tt
read_typed (x ∷ l) =
    cond_by SaidTyped (eqb x letter_o) {x = open_line l} {y = cond (eqb x letter_a) (typed_line l) (timed_line x l)} (λ _. open_typed l)
    (λ _. cond_by SaidTyped (eqb x letter_a) {x = typed_line l} {y = timed_line x l} (λ _. typed_typed l) (λ _. timed_typed x l))

said_typed : (l : List ℕ) → SaidTyped (said_by l)
unfolding said_by
said_typed l = cond_by SaidTyped (leb (length l) longest) {x = read_trace l} {y = wrong} (λ _. read_typed l) (λ _. tt)

-- ---- A good buffer stays good

open_stays : (b : List ℕ) (o : Order) → SaidTyped (opens o) → good b ≡ true → good (open_after b o) ≡ true
unfolding open_after
open_stays b o t g =
    cond_by (λ (x : List ℕ). good x ≡ true) (eqb (open_number b o) 0) {y = b} (λ e. good_lay _ (opened_valid b o (eqb-true (open_number b o) 0 e) t)) (λ _. g)

left_good : (b : List ℕ) (w : Said) → SaidTyped w → good b ≡ true → good (left_by b w) ≡ true
left_good b (opens o) t g = open_stays b o t g
left_good b (calls c) t g = good_after b c g
left_good b wrong t g = g

pub stays_good : (b line room : List ℕ) (r : ℕ) (x y : List ℕ) → LineSays b line room r x y → good b ≡ true → good x ≡ true
stays_good b line room r x y s g =
    subst (λ (l : List ℕ). good l ≡ true) (sym s.left)
    (cond_by (λ (l : List ℕ). good l ≡ true) (leb room_for (length room)) {x = left_by b (said_by line)} {y = b} (λ _. left_good b (said_by line) (said_typed line) g) (λ _. g))
