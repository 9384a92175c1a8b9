-- What the loops over the area read: a slot's first and last byte, and the bytes from a place on.
-- Assumes nothing.
use mathlib.Core.Path.{◌≡◌, refl, sym, ap, ◌∙◌}
use mathlib.Core.Bool.{Bool, true, false, ◌&&◌, cond}
use mathlib.Core.List.{List, [], ◌∷◌, ◌++◌}
use Prim.Native.Nat.{ℕ, zero, suc, ◌+◌, ◌-◌, ◌*◌, ◌≤◌, ◌<◌}
use native.Mathlib.Nat.{zero-mul, sub-zero, suc-sub-suc}
use native.Mathlib.Numerals.{add-one}
use native.Mathlib.Omega.{arith}
use lib.ListN.{length, take, drop, get_or, length-drop, drop_of_length-le, take-append-drop}
use lib.Seq.{drop-cons, drop-drop, get_or-take, get_or-drop, drop-append_seam}
use lib.Dec.{eqb}
use borrow.Author.Tests.{ne_eqb}
use Rattle.std.specs.List.{list_all}
use Rattle.std.specs.Simd.{first_chunks}
use Rattle.journal.specs.declared.Survey.TheVariants.{Bad, Clean, Torn}
use Rattle.journal.specs.Area.{parts, slots, slot, begun, closed, erased, records, rest, blank, torn, shape, free, count, survey}
use Rattle.journal.proofs.Bytes.{parts_length, parts_at, slots_length, next_place, slots_at, slot_long}
use Rattle.journal.proofs.Slots.{split, any_default, count_most}

-- ---- All bytes from a place on

and_assoc : (a b c : Bool) → ((a && b) && c) ≡ (a && (b && c))
and_assoc true b c = refl
and_assoc false b c = refl

erased_append : (x y : List ℕ) → erased (x ++ y) ≡ (erased x && erased y)
unfolding erased
erased_append [] y = refl
erased_append (v ∷ x) y = rw (erased_append x y) (sym (and_assoc (eqb v 255) (erased x) (erased y)))

pub blank_parts : (w n : ℕ) (a : List ℕ) → length a ≡ n * w → blank (parts w n a) ≡ erased a
unfolding parts blank erased
blank_parts w zero a h = none a (h ∙ zero-mul w)
  where
    none : (a : List ℕ) → length a ≡ 0 → true ≡ erased a
    none [] h = refl
    none (x ∷ l) h = absurd (omega arith)
blank_parts w (suc n) a h =
    let q : length (drop w a) ≡ n * w = let e = h ∙ next_place w n in simp length-drop (omega arith) in
    ap (λ (b : Bool). erased (take w a) && b) (blank_parts w n (drop w a) q)
    ∙ sym (erased_append (take w a) (drop w a)) ∙ ap erased (take-append-drop w a)

drop_parts : (w n j : ℕ) (a : List ℕ) → j ≤ n → drop j (parts w n a) ≡ parts w (n - j) (drop (j * w) a)
unfolding parts
drop_parts w n zero a h = rw (zero-mul w, sub-zero n)
drop_parts w zero (suc j) a h = absurd (omega arith)
drop_parts w (suc n) (suc j) a h =
    drop_parts w n j (drop w a) (omega arith) ∙ rw (drop-drop (j * w) w a, suc-sub-suc, next_place w j)

pub blank_from : (a : List ℕ) → length a ≡ 65536 → (j : ℕ) → j ≤ 512 → blank (drop j (slots a)) ≡ erased (drop (j * 128) a)
unfolding slots
blank_from a long j h =
    ap blank (drop_parts 128 512 j a h) ∙ blank_parts 128 (512 - j) (drop (j * 128) a) (simp length-drop (omega arith))

pub erased_all : (l : List ℕ) → list_all (λ (b : ℕ). eqb b 255) l ≡ erased l
unfolding erased
erased_all [] = refl
erased_all (x ∷ l) = ap (λ (b : Bool). eqb x 255 && b) (erased_all l)

-- ---- A slot's first and last byte

-- a part, as std cuts it out
pub chunk_at : (w n i : ℕ) (a : List ℕ) → i < n → get_or (first_chunks w n a) i [] ≡ take w (drop (i * w) a)
unfolding parts
chunk_at w n i a h = ap (λ (l : List (List ℕ)). get_or l i []) (chunks w n a) ∙ parts_at w n i a h
  where
    chunks : (w n : ℕ) (a : List ℕ) → first_chunks w n a ≡ parts w n a
    chunks w zero a = refl
    chunks w (suc n) a = ap (λ (l : List (List ℕ)). take w a ∷ l) (chunks w n (drop w a))

pub slots_end : (a : List ℕ) → drop 512 (slots a) ≡ []
slots_end a = let q = slots_length a in drop_of_length-le (slots a) {i = 512} (omega arith)

module _ (a : List ℕ) (long : length a ≡ 65536) (i : ℕ) (h : i < 512) where
  byte : (j : ℕ) → j < 128 → get_or (slot a i) j 255 ≡ get_or a (i * 128 + j) 0
  byte j g =
      let l = slot_long a long i h in
      any_default (slot a i) j 255 0 (omega arith) ∙ get_or-take 128 (drop (i * 128) a) j 0 g ∙ get_or-drop (i * 128) a j 0

  zero_byte : get_or (slot a i) 0 255 ≡ get_or a (i * 128) 0
  zero_byte = byte 0 (omega arith) ∙ ap (λ (n : ℕ). get_or a n 0) (omega arith)

  pub unbegun : get_or a (i * 128) 0 ≡ 255 → begun (slot a i) ≡ false
  unfolding begun
  unbegun e = rw (zero_byte, e)

  pub does_begin : (get_or a (i * 128) 0 ≡ 255 → ⊥) → begun (slot a i) ≡ true
  unfolding begun
  does_begin e = rw (zero_byte, ne_eqb _ _ e)

  pub unclosed : (get_or a (i * 128 + 127) 0 ≡ 0 → ⊥) → closed (slot a i) ≡ false
  unfolding closed
  unclosed e = rw (byte 127 (omega arith), ne_eqb _ _ e)

  pub does_close : get_or a (i * 128 + 127) 0 ≡ 0 → closed (slot a i) ≡ true
  unfolding closed
  does_close e = rw (byte 127 (omega arith), e)

  pub slots_cons : drop i (slots a) ≡ slot a i ∷ drop (suc i) (slots a)
  unfolding slots
  slots_cons =
      let q = parts_length 128 512 a in
      drop-cons (parts 128 512 a) i [] (omega arith) ∙ ap (λ (s : List ℕ). s ∷ drop (suc i) (parts 128 512 a)) (slots_at a long i h)

  -- the first free slot: here, or further on
  pub free_here : get_or a (i * 128) 0 ≡ 255 → free (drop i (slots a)) ≡ 0
  unfolding free
  free_here e = rw (slots_cons, unbegun e)

  pub free_on : (get_or a (i * 128) 0 ≡ 255 → ⊥) → free (drop i (slots a)) ≡ suc (free (drop (i + 1) (slots a)))
  unfolding free
  free_on e = rw (slots_cons, does_begin e, add-one)

  -- the whole records: none here, or one and those further on
  pub count_free : get_or a (i * 128) 0 ≡ 255 → length (records (drop i (slots a))) ≡ 0
  unfolding records
  count_free e = rw (slots_cons, unbegun e)

  pub count_torn : (get_or a (i * 128) 0 ≡ 255 → ⊥) → (get_or a (i * 128 + 127) 0 ≡ 0 → ⊥) → length (records (drop i (slots a))) ≡ 0
  unfolding records
  count_torn e f = rw (slots_cons, does_begin e, unclosed f)

  pub count_on : (get_or a (i * 128) 0 ≡ 255 → ⊥) → get_or a (i * 128 + 127) 0 ≡ 0 → length (records (drop i (slots a))) ≡ suc (length (records (drop (i + 1) (slots a))))
  unfolding records
  count_on e f = rw (slots_cons, does_begin e, does_close f, add-one)

pub free_end : (a : List ℕ) → free (drop 512 (slots a)) ≡ 0
unfolding free
free_end a = rw (slots_end a)

pub count_end : (a : List ℕ) → length (records (drop 512 (slots a))) ≡ 0
unfolding records
count_end a = rw (slots_end a)

-- ---- The survey

rest_drop : (l : List (List ℕ)) → rest l ≡ drop (length (records l)) l
rest_drop l = sym (drop-append_seam (records l) (rest l)) ∙ ap (λ (t : List (List ℕ)). drop (length (records l)) t) (split l)

module _ (a : List ℕ) (long : length a ≡ 65536) (n : ℕ) (e : n ≡ count a) where
  rest_from : rest (slots a) ≡ drop n (slots a)
  rest_from = rest_drop (slots a) ∙ ap (λ (k : ℕ). drop k (slots a)) (sym e)

  survey_by : (p t : Bool) → shape (slots a) ≡ p → torn (slots a) ≡ t → cond p (cond t (Torn n) (Clean n)) Bad ≡ survey a
  unfolding survey
  survey_by p t f g = rw (f, g, e)

  pub look_full : n ≡ 512 → Clean 512 ≡ survey a
  unfolding shape torn blank
  look_full f =
      let q : rest (slots a) ≡ [] = rest_from ∙ ap (λ (k : ℕ). drop k (slots a)) f ∙ slots_end a in
      ap Clean (sym f) ∙ survey_by true false (rw q) (rw q)

  module _ (h : n < 512) where
    rest_cons : rest (slots a) ≡ slot a n ∷ drop (suc n) (slots a)
    rest_cons = rest_from ∙ slots_cons a long n h

    untorn_shape : get_or a (n * 128) 0 ≡ 255 → shape (slots a) ≡ erased (drop (n * 128) a)
    unfolding shape
    untorn_shape f =
        rw (rest_cons, unbegun a long n h f) (ap blank (sym (slots_cons a long n h)) ∙ blank_from a long n (omega arith))

    untorn : get_or a (n * 128) 0 ≡ 255 → torn (slots a) ≡ false
    unfolding torn
    untorn f = rw rest_cons (unbegun a long n h f)

    torn_shape : (get_or a (n * 128) 0 ≡ 255 → ⊥) → shape (slots a) ≡ erased (drop (n * 128 + 128) a)
    unfolding shape
    torn_shape f =
        rw (rest_cons, does_begin a long n h f)
        (let p : suc n * 128 ≡ n * 128 + 128 = omega arith in blank_from a long (suc n) (omega arith) ∙ ap (λ (k : ℕ). erased (drop k a)) p)

    is_torn : (get_or a (n * 128) 0 ≡ 255 → ⊥) → torn (slots a) ≡ true
    unfolding torn
    is_torn f = rw rest_cons (does_begin a long n h f)

    pub look_clean : get_or a (n * 128) 0 ≡ 255 → true ≡ erased (drop (n * 128) a) → Clean n ≡ survey a
    look_clean f g = survey_by true false (untorn_shape f ∙ sym g) (untorn f)

    pub look_bad : get_or a (n * 128) 0 ≡ 255 → false ≡ erased (drop (n * 128) a) → Bad ≡ survey a
    look_bad f g = survey_by false false (untorn_shape f ∙ sym g) (untorn f)

    pub look_torn : (get_or a (n * 128) 0 ≡ 255 → ⊥) → true ≡ erased (drop (n * 128 + 128) a) → Torn n ≡ survey a
    look_torn f g = survey_by true true (torn_shape f ∙ sym g) (is_torn f)

    pub look_bad_2 : (get_or a (n * 128) 0 ≡ 255 → ⊥) → false ≡ erased (drop (n * 128 + 128) a) → Bad ≡ survey a
    look_bad_2 f g = survey_by false true (torn_shape f ∙ sym g) (is_torn f)

pub count_le : (a : List ℕ) → count a ≤ 512
count_le a = let q = slots_length a in let m = count_most (slots a) in omega arith
