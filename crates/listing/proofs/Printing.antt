-- Fields and bytes, written one after the other. Assumes nothing.
use mathlib.Core.Path.{◌≡◌, sym, ap, ◌∙◌}
use mathlib.Core.List.{List, [], ◌∷◌, ◌++◌, append_assoc, append-nil}
use Prim.Native.Nat.{ℕ, suc, ◌+◌, ◌≤◌, ◌<◌}
use native.Mathlib.Numerals.{add-one}
use native.Mathlib.Omega.{arith}
use lib.ListN.{length, get_or, take, drop, set, length-append, drop_of_length-le}
use lib.Seq.{drop-cons, sets}
use Rattle.text.specs.Printed.{print_num}
use Rattle.text.proofs.Putting.{sets_append}
use Rattle.image.proofs.Imaging.{front}
use Rattle.listing.specs.Listing.{fields_of}

-- ---- A number behind a space

one_field : (n : ℕ) → fields_of (n ∷ []) ≡ 32 ∷ print_num n
unfolding fields_of
one_field n = ap (λ (l : List ℕ). 32 ∷ l) (append-nil (print_num n))

pub field_length : (n : ℕ) → length (fields_of (n ∷ [])) ≡ 1 + length (print_num n)
field_length n = omega (arith, ap length (one_field n))

pub field_put : (n : ℕ) (out : List ℕ) (i : ℕ) → sets (set out i 32) (i + 1) (print_num n) ≡ sets out i (fields_of (n ∷ []))
field_put n out i = rw (add-one, one_field n)

-- ---- Numbers, one after the other: what is left is written behind what was

module _ (v : List ℕ) (i : ℕ) (h : i < length v) where
  step : fields_of (drop i v) ≡ fields_of (get_or v i 0 ∷ []) ++ fields_of (drop (i + 1) v)
  unfolding fields_of
  step = rw (add-one, drop-cons v i 0 h) (ap (λ (l : List ℕ). 32 ∷ l) (sym (append_assoc (print_num (get_or v i 0)) [] (fields_of (drop (suc i) v)))))

  pub fields_next : (out : List ℕ) (k : ℕ)
      → sets (sets out k (fields_of (get_or v i 0 ∷ []))) (k + length (fields_of (get_or v i 0 ∷ []))) (fields_of (drop (i + 1) v)) ≡ sets out k (fields_of (drop i v))
  fields_next out k = sym (ap (sets out k) step ∙ sets_append out k (fields_of (get_or v i 0 ∷ [])) (fields_of (drop (i + 1) v)))

  pub fields_long : length (fields_of (drop i v)) ≡ length (fields_of (get_or v i 0 ∷ [])) + length (fields_of (drop (i + 1) v))
  fields_long = ap length step ∙ length-append (fields_of (get_or v i 0 ∷ [])) (fields_of (drop (i + 1) v))

pub fields_none : (v : List ℕ) (i : ℕ) → length v ≤ i → fields_of (drop i v) ≡ []
unfolding fields_of
fields_none v i h = ap fields_of (drop_of_length-le v {i = i} h)

-- ---- A line: its first bytes, the rest of it, its answer

pub line_put : (first body end out p q : List ℕ) (i j r : ℕ) → p ≡ sets (sets out 0 first) i body → i ≡ length first
    → q ≡ sets p j end → j ≡ i + length body → r ≡ j + length end → r ≤ length out → take r q ≡ first ++ (body ++ end)
line_put first body end out p q i j r e f g h k m =
    let all : List ℕ = first ++ (body ++ end) in
    let n : r ≡ 0 + length all = let a = length-append first (body ++ end) in let b = length-append body end in omega arith in
    let s : sets out 0 all ≡ sets (sets (sets out 0 first) (0 + length first) body) (0 + length first + length body) end
    = sets_append out 0 first (body ++ end) ∙ sets_append (sets out 0 first) (0 + length first) body end in
    let u : 0 + length first ≡ i = omega arith in
    let t : q ≡ sets out 0 all = g ∙ rw (e, h) (sym (s ∙ rw u)) in
    (λ x. take (n x) (t x)) ∙ front out 0 all (omega arith)
