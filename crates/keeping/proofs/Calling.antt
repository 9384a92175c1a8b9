-- The ways out of a journaled call, and that each allows one result only. Assumes nothing.
use mathlib.Core.Path.{◌≡◌, refl, sym, ap, ◌∙◌}
use mathlib.Core.Bool.{true, false}
use mathlib.Core.List.{List}
use mathlib.Core.Logic.{◌≢◌}
use Prim.Native.Nat.{ℕ, ◌<◌}
use native.Mathlib.Omega.{arith}
use lib.ListN.{length, replicate}
use borrow.Author.Tests.{eq-eqb, ne_eqb, lt-ltb, le-ltb}
use Rattle.std.specs.Prelude.{Result, is_ok}
use Rattle.rules.specs.declared.Answer.{Answer}
use Rattle.rules.specs.Calls.{answer}
use Rattle.rules.specs.Rules.{refused, ruling}
use Rattle.buffer.specs.Layout.{view}
use Rattle.buffer.specs.Good.{good}
use Rattle.clock.specs.Call.{Says}
use Rattle.clock.proofs.Saying.{answer_is, says_bad}
use Rattle.journal.specs.declared.Full.{Full}
use Rattle.journal.specs.Area.{AREA, SLOTS, slots, free, written, Appends}
use Rattle.records.specs.Records.{Noted, call_of, encoded}
use Rattle.keeping.specs.Keeping.{answer_at, sized, roomy, appends, journal_answer, Journals, JournalsLine, EraseSays, next_of}

-- ---- One result only

pub one_result : {b a : List ℕ} {n : Noted} {r r' : Answer} {x x' y y' : List ℕ} → Journals b a n r x y → Journals b a n r' x' y' → (r ≡ r') × (x ≡ x') × (y ≡ y')
one_result p q = (p.answered ∙ sym q.answered, p.left ∙ sym q.left, p.kept ∙ sym q.kept)

pub one_result_line : {b a line room : List ℕ} {r r' : Answer} {x x' y y' z z' : List ℕ} → JournalsLine b a line room r x y z → JournalsLine b a line room r' x' y' z'
    → (r ≡ r') × (x ≡ x') × (y ≡ y') × (z ≡ z')
one_result_line p q = (p.answered ∙ sym q.answered, p.left ∙ sym q.left, p.kept ∙ sym q.kept, p.told ∙ sym q.told)

pub one_result_erase : {a : List ℕ} {r r' : Answer} {y y' : List ℕ} → EraseSays a r y → EraseSays a r' y' → (r ≡ r') × (y ≡ y')
one_result_erase p q = (p.answered ∙ sym q.answered, p.kept ∙ sym q.kept)

-- ---- The ways out

-- what is decided by reading alone is the plain call's answer
pub foreseen : (b : List ℕ) → good b ≡ true → (n : Noted) (r : Answer) → r ≡ ruling (view b) (call_of n) → r ≡ answer_at b n
foreseen b g n r e = sym (answer_is b g (call_of n) r (sym e))

module _ (b a : List ℕ) (n : Noted) where
  pub journal_short : length a ≢ AREA → Journals b a n (answer 1 0) b a
  unfolding appends journal_answer
  journal_short h = let e = ne_eqb (length a) AREA h in record { answered = rw e; left = rw e; kept = rw e }

  module _ (long : length a ≡ AREA) where
    is_sized : sized a ≡ true
    is_sized = eq-eqb (length a) AREA long

    -- what the plain call refuses
    pub journal_refused : (r : Answer) → r ≡ answer_at b n → refused r ≡ true → Journals b a n r b a
    unfolding appends journal_answer
    journal_refused r e h =
        let g : refused (answer_at b n) ≡ true = ap refused (sym e) ∙ h in
        record { answered = e ∙ rw (is_sized, g); left = rw (is_sized, g); kept = rw (is_sized, g) }

    -- a bad buffer is what it refuses first
    pub journal_bad : good b ≡ false → Journals b a n (answer 1 0) b a
    journal_bad g = journal_refused (answer 1 0) (says_bad b (call_of n) g).answered refl

    -- what it would not refuse: with room in the journal, and without
    module _ (r : Answer) (e : r ≡ answer_at b n) (h : refused r ≡ false) where
      goes : refused (answer_at b n) ≡ false
      goes = ap refused (sym e) ∙ h

      module _ (y : List ℕ) (k : Result (Unit {0}) Full) (w : Appends a (encoded n r) k y) where
        pub journal_full : is_ok k ≡ false → Journals b a n (answer 6 0) b y
        unfolding appends journal_answer
        journal_full f =
            let g : roomy a ≡ false = sym w.room ∙ f in
            record { answered = rw (is_sized, goes, g); left = rw (is_sized, goes, g); kept = w.kept ∙ rw (is_sized, goes, g) }

        pub journal_done : is_ok k ≡ true → (q : Answer) (x : List ℕ) → Says b (call_of n) q x → Journals b a n q x y
        unfolding appends journal_answer
        journal_done f q x s =
            let g : roomy a ≡ true = sym w.room ∙ f in
            record {
              answered = s.answered ∙ rw (is_sized, goes, g);
              left = s.left ∙ rw (is_sized, goes, g);
              kept = w.kept ∙ rw (is_sized, goes, g) (ap (λ (z : Answer). written a (free (slots a)) (encoded n z) 128) e);
            }

-- ---- The area by itself

module _ (a : List ℕ) (long : length a ≡ AREA) where
  pub erase_done : (y : List ℕ) → y ≡ replicate (length a) 255 → EraseSays a (answer 0 0) y
  erase_done y e = let f = eq-eqb (length a) AREA long in record { answered = rw f; kept = e ∙ rw (f, long) }

  pub next_none : free (slots a) ≡ SLOTS → answer 6 0 ≡ next_of a
  unfolding next_of
  next_none h = rw (eq-eqb (length a) AREA long, le-ltb (free (slots a)) SLOTS (omega (arith, h)))

  pub next_some : (i : ℕ) → i ≡ free (slots a) → i < SLOTS → answer 0 i ≡ next_of a
  unfolding next_of
  next_some i e h = rw (eq-eqb (length a) AREA long, lt-ltb (free (slots a)) SLOTS (rw e at h), ← e)
