-- Which of two files rules, as a reference and as bytes, and how long its part is. Assumes nothing.
use mathlib.Core.Path.{◌≡◌, refl, sym, ap, ◌∙◌}
use mathlib.Core.Bool.{Bool, true, false, cond, ◌&&◌}
use mathlib.Core.List.{List, []}
use Prim.Native.Nat.{ℕ, ◌≤◌, ◌<◌}
use native.Mathlib.Omega.{arith}
use lib.Dec.{eqb}
use lib.ListN.{length, take}
use lib.Seq.{length-take-le}
use borrow.Author.Tests.{eqb-true, eq-eqb, ne_eqb}
use denote.Ref.{Bor}
use Rattle.card.specs.Card.{file, absent, good_or_absent, both_good, ruling_file, part, IsPart}

first_true : (x y : Bool) → (x && y) ≡ true → x ≡ true
first_true true y e = refl
first_true false y e = e

-- a good file has its length
file_long : (long n : ℕ) (b : List ℕ) → file long n b ≡ true → length b ≡ long
unfolding file
file_long long n b h = eqb-true (length b) long (first_true (eqb (length b) long) _ h)

-- ---- Bytes

module _ (long n : ℕ) (card own : List ℕ) where
  -- of two good files the one that rules has its length
  pub ruling_long : both_good long n card own ≡ true → length (ruling_file card own) ≡ long
  unfolding both_good good_or_absent ruling_file
  ruling_long = go (absent card)
    where
      go : (x : Bool) → (cond x true (file long n card) && file long n own) ≡ true → length (cond x own card) ≡ long
      go true h = file_long long n own h
      go false h = file_long long n card (first_true (file long n card) (file long n own) h)

  -- the length of its part tells whether the two are good
  pub part_tells : 0 < n → n ≤ long → eqb (length (part long n card own)) n ≡ both_good long n card own
  unfolding part
  part_tells some fits = go (both_good long n card own) refl
    where
      go : (x : Bool) → both_good long n card own ≡ x → eqb (length (cond x (take n (ruling_file card own)) [])) n ≡ x
      go true e = eq-eqb _ n (length-take-le n (ruling_file card own) (omega (arith, ruling_long e)))
      go false e = ne_eqb 0 n (λ z. omega (arith, some, z))

  -- a part of n bytes is the first n of the file that rules
  pub part_whole : 0 < n → n ≤ long → length (part long n card own) ≡ n → part long n card own ≡ take n (ruling_file card own)
  unfolding part
  part_whole some fits h = rw (sym (part_tells some fits) ∙ eq-eqb _ n h)

-- ---- References: what was chosen, and what the tests of the two files say

pub both_by : (long n : ℕ) (card own : List ℕ) {x y : Bool} → x ≡ good_or_absent long n card → y ≡ file long n own → both_good long n card own ≡ (x && y)
unfolding both_good
both_by long n card own p q = rw (p, q)

module _ (long n : ℕ) (card own f : Bor (List ℕ)) (chosen : f ≡ cond (absent card.now) own card) where
  begins : f.ref_ptr ≡ cond (absent card.now) own.ref_ptr card.ref_ptr
  begins = ap (λ (z : Bor (List ℕ)). z.ref_ptr) chosen ∙ go (absent card.now)
    where
      go : (b : Bool) → (cond b own card).ref_ptr ≡ cond b own.ref_ptr card.ref_ptr
      go true = refl
      go false = refl

  holds : f.now ≡ ruling_file card.now own.now
  unfolding ruling_file
  holds = ap (λ (z : Bor (List ℕ)). z.now) chosen ∙ go (absent card.now)
    where
      go : (b : Bool) → (cond b own card).now ≡ cond b own.now card.now
      go true = refl
      go false = refl

  -- two good files: the first n bytes of what was chosen are there, and are its part
  pub long_enough : n ≤ long → both_good long n card.now own.now ≡ true → n ≤ length f.now
  long_enough fits e = let l = ruling_long long n card.now own.now e in rw holds (omega (arith, l))

  pub is_part : both_good long n card.now own.now ≡ true → (r : Bor (List ℕ)) → r.ref_ptr ≡ f.ref_ptr → r.now ≡ take n f.now → IsPart long n card own r
  unfolding part
  is_part e r at h = record { begins = at ∙ begins; holds = rw e (h ∙ ap (take n) holds) }

  -- else it has none
  pub no_part : both_good long n card.now own.now ≡ false → (r : Bor (List ℕ)) → r.ref_ptr ≡ f.ref_ptr → r.now ≡ [] → IsPart long n card own r
  unfolding part
  no_part e r at h = record { begins = at ∙ begins; holds = rw e h }
