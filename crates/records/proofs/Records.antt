-- A record has 128 bytes, does not begin with 255, ends with 0, and reads back as its call. Assumes
-- nothing.
use mathlib.Core.Path.{◌≡◌, refl, ap, ◌∙◌}
use mathlib.Core.Bool.{Bool, true, false, ◌&&◌, false≢true}
use mathlib.Core.List.{List, [], ◌∷◌, ◌++◌, append_assoc}
use mathlib.Core.Logic.{◌≢◌}
use Rattle.std.specs.Prelude.{Some}
use Prim.Native.Nat.{ℕ, zero, suc, ◌-◌, ◌*◌, ◌≤◌, ◌<◌}
use native.Mathlib.Omega.{arith}
use lib.Dec.{eqb, lit<}
use lib.ListN.{length, get_or, drop, replicate, length-append, length-replicate}
use lib.Seq.{take_at, drop_at}
use borrow.Author.Tests.{eq-eqb, ne_eqb, le-leb, eqb-true, eqb-false}
use Rattle.rules.specs.declared.Answer.{Answer}
use Rattle.rules.specs.declared.Event.{Event}
use Rattle.rules.specs.declared.Event.TheVariants.{Ask as ask, Outcome as outcome, Dropped as dropped, Tick as tick}
use Rattle.rules.specs.declared.Outcome.TheVariants.{Granted as granted, Silent as silent, Rejected as rejected}
use Rattle.image.specs.Image.{image_of, numbers_of}
use Rattle.image.proofs.Returns.{returns, image_length}
use Rattle.calls.specs.Letters.{letter_q, letter_g, letter_s, letter_j, letter_d, letter_t, letter_a, how_many, event_of}
use Rattle.calls.proofs.Letters.{many_none}
use Rattle.records.specs.Records.{Noted, times, types, letter_of, arguments_of, packed, encoded, Fits, numbers_in, timed_by, line_by, parsed, same}

-- ---- The same bytes

pub same_eq : (a b : List ℕ) → same a b ≡ true → a ≡ b
unfolding same
same_eq [] [] e = refl
same_eq [] (y ∷ b) e = absurd (false≢true e)
same_eq (x ∷ a) [] e = absurd (false≢true e)
same_eq (x ∷ a) (y ∷ b) e = go (eqb x y) refl e (same_eq a b)
  where
    go : (t : Bool) → eqb x y ≡ t → (t && same a b) ≡ true → (same a b ≡ true → a ≡ b) → x ∷ a ≡ y ∷ b
    go true h z rest = rw (eqb-true x y h, rest z)
    go false h z rest = absurd (false≢true z)

pub same_self : (a : List ℕ) → same a a ≡ true
unfolding same
same_self [] = refl
same_self (x ∷ a) = rw (eq-eqb x x refl) (same_self a)

-- ---- Length, first and last byte

-- behind xs are zeros only
get_or_zeros : (n i : ℕ) → ◌≡◌ {A = ℕ} (get_or (replicate n 0) i 0) 0
get_or_zeros zero zero = refl
get_or_zeros zero (suc i) = refl
get_or_zeros (suc n) zero = refl
get_or_zeros (suc n) (suc i) = get_or_zeros n i

get_or_behind : (xs : List ℕ) (n i : ℕ) → length xs ≤ i → get_or (xs ++ replicate n 0) i 0 ≡ 0
get_or_behind [] n i h = get_or_zeros n i
get_or_behind (x ∷ xs) n zero h = absurd (omega arith)
get_or_behind (x ∷ xs) n (suc i) h = get_or_behind xs n i (omega arith)

module _ (x : ℕ) (body : List ℕ) (a : Answer) (short : length body ≤ 118) where
  answered : List ℕ
  answered = image_of (a.number ∷ a.second ∷ [])

  pub packed_long : length (packed x body a) ≡ 128
  unfolding packed
  packed_long = let q = image_length (a.number ∷ a.second ∷ []) in simp (length-append, length-replicate) (omega arith)

  pub packed_last : get_or (packed x body a) 127 0 ≡ 0
  unfolding packed answered
  packed_last =
      let q = image_length (a.number ∷ a.second ∷ []) in
      rw (← append_assoc body answered (replicate (119 - length body) 0))
      (get_or_behind (x ∷ (body ++ answered)) (119 - length body) 127 (simp length-append (omega arith)))

-- the letters are no 255, and a call has at most five numbers
letter_low : (e : Event) → letter_of e < 255
letter_low (ask q) = lit< tt
letter_low (outcome s granted) = lit< tt
letter_low (outcome s silent) = lit< tt
letter_low (outcome s (rejected c d k)) = lit< tt
letter_low dropped = lit< tt
letter_low tick = lit< tt

pub numbers_few : (t : ℕ) (e : Event) → length (t ∷ arguments_of e) ≤ 5
numbers_few t (ask q) = omega arith
numbers_few t (outcome s granted) = omega arith
numbers_few t (outcome s silent) = omega arith
numbers_few t (outcome s (rejected c d k)) = omega arith
numbers_few t dropped = omega arith
numbers_few t tick = omega arith

timed_short : (t : ℕ) (e : Event) → length (image_of (t ∷ arguments_of e)) ≤ 118
timed_short t e = omega (arith, image_length (t ∷ arguments_of e), numbers_few t e)

line_short : (l : List ℕ) → length l ≤ 96 → length (image_of (length l ∷ []) ++ l) ≤ 118
line_short l h = let q = image_length (length l ∷ []) in simp length-append (omega arith)

pub encoded_long : (n : Noted) (a : Answer) → Fits n → length (encoded n a) ≡ 128
unfolding encoded
encoded_long (times t e) a f = packed_long (letter_of e) (image_of (t ∷ arguments_of e)) a (timed_short t e)
encoded_long (types l) a f = packed_long letter_a (image_of (length l ∷ []) ++ l) a (line_short l f)

pub encoded_first : (n : Noted) (a : Answer) → get_or (encoded n a) 0 0 ≢ 255
unfolding encoded packed
encoded_first (times t e) a z = let q = letter_low e in absurd (omega arith)
encoded_first (types l) a z = absurd (omega arith)

pub encoded_last : (n : Noted) (a : Answer) → Fits n → get_or (encoded n a) 127 0 ≡ 0
unfolding encoded
encoded_last (times t e) a f = packed_last (letter_of e) (image_of (t ∷ arguments_of e)) a (timed_short t e)
encoded_last (types l) a f = packed_last letter_a (image_of (length l ∷ []) ++ l) a (line_short l f)

-- ---- THE ROUND TRIP

-- the call of an event's letter and numbers is the event's
pub letter_many : (t : ℕ) (e : Event) → how_many (letter_of e) ≡ length (t ∷ arguments_of e)
unfolding how_many
letter_many t (ask q) = refl
letter_many t (outcome s granted) = refl
letter_many t (outcome s silent) = refl
letter_many t (outcome s (rejected c d k)) = refl
letter_many t dropped = refl
letter_many t tick = refl

pub letter_event : (t : ℕ) (e : Event) → event_of (letter_of e) (t ∷ arguments_of e) ≡ e
unfolding event_of
letter_event t (ask q) = refl
letter_event t (outcome s granted) = refl
letter_event t (outcome s silent) = refl
letter_event t (outcome s (rejected c d k)) = refl
letter_event t dropped = refl
letter_event t tick = refl

pub letter_other : (e : Event) → letter_of e ≢ letter_a
letter_other (ask q) z = absurd (omega arith)
letter_other (outcome s granted) z = absurd (omega arith)
letter_other (outcome s silent) z = absurd (omega arith)
letter_other (outcome s (rejected c d k)) z = absurd (omega arith)
letter_other dropped z = absurd (omega arith)
letter_other tick z = absurd (omega arith)

-- the numbers that were written are read
numbers_back : (x : ℕ) (l rest : List ℕ) (n : ℕ) → n ≡ length l → numbers_in n (x ∷ (image_of l ++ rest)) ≡ numbers_of (image_of l)
unfolding numbers_in
numbers_back x l rest n e = ap numbers_of (take_at (image_of l) rest (4 * n) (omega (arith, image_length l)))

-- a record reads back as its call, whatever the answer
pub parsed_back : (n : Noted) (a : Answer) → Fits n → parsed (encoded n a) ≡ Some n
unfolding parsed encoded packed timed_by line_by
parsed_back (times t e) a f =
    let l : List ℕ = t ∷ arguments_of e in
    let rest : List ℕ = image_of (a.number ∷ a.second ∷ []) ++ replicate (119 - length (image_of l)) 0 in
    let many = letter_many t e in
    let read : numbers_in (how_many (letter_of e)) (letter_of e ∷ (image_of l ++ rest)) ≡ l = numbers_back (letter_of e) l rest (how_many (letter_of e)) many ∙ returns l f in
    let none : how_many (letter_of e) ≢ 0 = λ z. absurd (omega arith) in
    rw (ne_eqb (letter_of e) letter_a (letter_other e), read, ne_eqb (how_many (letter_of e)) 0 none, letter_event t e)
parsed_back (types l) a f =
    let answer : List ℕ = image_of (a.number ∷ a.second ∷ []) ++ replicate (119 - length (image_of (length l ∷ []) ++ l)) 0 in
    let size : List ℕ = image_of (length l ∷ []) in
    let whole : (size ++ l) ++ answer ≡ size ++ (l ++ answer) = append_assoc size l answer in
    let n : get_or (numbers_in 1 (letter_a ∷ (size ++ (l ++ answer)))) 0 0 ≡ length l
    = ap (λ (v : List ℕ). get_or v 0 0) (numbers_back letter_a (length l ∷ []) (l ++ answer) 1 refl ∙ returns (length l ∷ []) (omega arith, tt)) in
    let rest : drop 4 (size ++ (l ++ answer)) ≡ l ++ answer = drop_at size (l ++ answer) 4 (image_length (length l ∷ [])) in
    rw (whole, n, rest, le-leb (length l) 96 f, take_at l answer (length l) refl)

-- ---- A letter and its numbers

-- the timed call of a letter and the numbers v has that letter and those numbers
pub record Spells (x : ℕ) (v : List ℕ) : Type 0 where
  pub letter : letter_of (event_of x v) ≡ x
  pub numbers : get_or v 0 0 ∷ arguments_of (event_of x v) ≡ v

spells_1 : (x : ℕ) → ((t : ℕ) → Spells x (t ∷ [])) → (v : List ℕ) → length v ≡ 1 → Spells x v
spells_1 x s [] e = absurd (omega arith)
spells_1 x s (t ∷ []) e = s t
spells_1 x s (t ∷ a ∷ v) e = absurd (omega arith)

spells_2 : (x : ℕ) → ((t a : ℕ) → Spells x (t ∷ a ∷ [])) → (v : List ℕ) → length v ≡ 2 → Spells x v
spells_2 x s [] e = absurd (omega arith)
spells_2 x s (t ∷ []) e = absurd (omega arith)
spells_2 x s (t ∷ a ∷ []) e = s t a
spells_2 x s (t ∷ a ∷ b ∷ v) e = absurd (omega arith)

spells_5 : (x : ℕ) → ((t a b c d : ℕ) → Spells x (t ∷ a ∷ b ∷ c ∷ d ∷ [])) → (v : List ℕ) → length v ≡ 5 → Spells x v
spells_5 x s [] e = absurd (omega arith)
spells_5 x s (t ∷ []) e = absurd (omega arith)
spells_5 x s (t ∷ a ∷ []) e = absurd (omega arith)
spells_5 x s (t ∷ a ∷ b ∷ []) e = absurd (omega arith)
spells_5 x s (t ∷ a ∷ b ∷ c ∷ []) e = absurd (omega arith)
spells_5 x s (t ∷ a ∷ b ∷ c ∷ d ∷ []) e = s t a b c d
spells_5 x s (t ∷ a ∷ b ∷ c ∷ d ∷ f ∷ v) e = absurd (omega arith)

module _ (x : ℕ) (v : List ℕ) (many : length v ≡ how_many x) (begins : how_many x ≢ 0) where
  -- x is the letter y, or another
  known : (y : ℕ) → (length v ≡ how_many y → Spells y v) → (x ≢ y → Spells x v) → Spells x v
  known y s other = go (eqb x y) refl
    where
      go : (b : Bool) → eqb x y ≡ b → Spells x v
      go true e = let q : x ≡ y = eqb-true x y e in rw q (s (many ∙ ap how_many q))
      go false e = other (eqb-false x y e)

  pub spells : Spells x v
  unfolding how_many event_of
  spells =
      known letter_q (spells_2 letter_q (λ t a. record { letter = refl; numbers = refl }) v) (λ q.
      known letter_g (spells_2 letter_g (λ t a. record { letter = refl; numbers = refl }) v) (λ g.
      known letter_s (spells_2 letter_s (λ t a. record { letter = refl; numbers = refl }) v) (λ s.
      known letter_j (spells_5 letter_j (λ t a b c d. record { letter = refl; numbers = refl }) v) (λ j.
      known letter_d (spells_1 letter_d (λ t. record { letter = refl; numbers = refl }) v) (λ d.
      known letter_t (spells_1 letter_t (λ t. record { letter = refl; numbers = refl }) v) (λ t.
      absurd (begins (many_none x q g s j d t))))))))

  pub spelled : (a : Answer) → encoded (times (get_or v 0 0) (event_of x v)) a ≡ packed x (image_of v) a
  unfolding encoded
  spelled a = rw (spells.letter, spells.numbers)
