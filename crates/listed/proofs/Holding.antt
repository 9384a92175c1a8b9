-- What a slot holds, from what each test found, and the parts of all slots one after the other.
-- Assumes nothing.
use mathlib.Core.Path.{◌≡◌, sym, ap, ◌∙◌}
use mathlib.Core.Bool.{true, false}
use mathlib.Core.List.{List, [], ◌∷◌, ◌++◌, append_assoc, append-nil}
use Rattle.std.specs.Prelude.{None, Some}
use Prim.Native.Nat.{ℕ, suc, ◌+◌, ◌-◌, ◌*◌, ◌≤◌, ◌<◌}
use native.Mathlib.Numerals.{add-one}
use native.Mathlib.Omega.{arith}
use lib.ListN.{length, get_or, take, drop, length-append}
use lib.Seq.{length-take-le, sets}
use Rattle.text.specs.Printed.{print_num}
use Rattle.text.proofs.Putting.{sets_append}
use Rattle.image.proofs.Imaging.{front}
use Rattle.journal.specs.Area.{slot, erased}
use Rattle.journal.proofs.Reading.{unbegun, does_begin, unclosed, does_close}
use Rattle.listing.specs.Listing.{line_in}
use Rattle.listed.specs.Slots.{Held, blank, torn, line, bad, torn_at, held, line_for, told, from}

-- ---- A slot

module _ (a : List ℕ) (long : length a ≡ 65536) (i : ℕ) (h : i < 512) where
  pub not_begun : get_or a (i * 128) 0 ≡ 255 → false ≡ torn_at a i
  unfolding torn_at
  not_begun e = rw (unbegun a long i h e)

  module _ (e : get_or a (i * 128) 0 ≡ 255 → ⊥) where
    pub is_closed : get_or a (i * 128 + 127) 0 ≡ 0 → false ≡ torn_at a i
    unfolding torn_at
    is_closed f = rw (does_begin a long i h e, does_close a long i h f)

    pub is_open : (get_or a (i * 128 + 127) 0 ≡ 0 → ⊥) → erased (drop (i * 128 + 128) a) ≡ torn_at a i
    unfolding torn_at
    is_open f = rw (does_begin a long i h e, unclosed a long i h f)

module _ (a : List ℕ) (i : ℕ) where
  pub held_blank : erased (slot a i) ≡ true → blank ≡ held a i
  unfolding held
  held_blank e = rw e

  module _ (e : erased (slot a i) ≡ false) where
    pub held_torn : torn_at a i ≡ true → torn ≡ held a i
    unfolding held
    held_torn t = rw (e, t)

    module _ (t : torn_at a i ≡ false) where
      pub held_line : (l : List ℕ) → Some l ≡ line_in (slot a i) → line l ≡ held a i
      unfolding held
      held_line l s = rw (e, t, ← s)

      pub held_bad : None ≡ line_in (slot a i) → bad ≡ held a i
      unfolding held
      held_bad s = rw (e, t, ← s)

-- ---- All slots

-- what is left, by the first of it
from_next : (f : ℕ → List ℕ) (i : ℕ) → i < 512 → from f (512 - i) i ≡ f i ++ from f (512 - (i + 1)) (i + 1)
unfolding from
from_next f i h =
    let e : 512 - i ≡ suc (512 - (i + 1)) = omega arith in
    rw (e, add-one i)

-- a slot's part behind those before it, and none left
module _ (f : ℕ → List ℕ) (all : List ℕ) (i : ℕ) (out : List ℕ) (at : ℕ) (so : take at out ++ from f (512 - i) i ≡ all) where
  pub each_next : i < 512 → (x : List ℕ) (r : ℕ) → take r x ≡ take at out ++ f i → take r x ++ from f (512 - (i + 1)) (i + 1) ≡ all
  each_next h x r e =
      let rest : List ℕ = from f (512 - (i + 1)) (i + 1) in
      ap (λ (l : List ℕ). l ++ rest) e
      ∙ (append_assoc (take at out) (f i) rest ∙ (ap (λ (l : List ℕ). take at out ++ l) (sym (from_next f i h)) ∙ so))

  pub each_end : i ≡ 512 → take at out ≡ all
  unfolding from
  each_end e = sym (append-nil (take at out)) ∙ (rw e at so)

-- ---- A line, or none

pub a_line : (out room : List ℕ) (at n : ℕ) → n ≤ length room → at + n ≤ length out → (g : Held) → line (take n room) ≡ g → take (at + n) (sets out at (take n room)) ≡ take at out ++ line_for g
a_line out room at n h k g e =
    let l : length (take n room) ≡ n = length-take-le n room h in
    rw (← e) ((λ j. take (at + sym l j) (sets out at (take n room))) ∙ front out at (take n room) (omega arith))

-- ---- A note

pub note_put : (i : ℕ) (end out p q x : List ℕ) (at k r : ℕ) → p ≡ sets out at (115 ∷ 108 ∷ 111 ∷ 116 ∷ 32 ∷ []) → q ≡ sets p (at + 5) (print_num i) → k ≡ at + 5 + length (print_num i)
    → x ≡ sets q k end → r ≡ k + length end → r ≤ length out → take r x ≡ take at out ++ told i end
note_put i end out p q x at k r e f g h m n =
    let slots : List ℕ = 115 ∷ 108 ∷ 111 ∷ 116 ∷ 32 ∷ [] in
    let size : r ≡ at + length (told i end) = let l = length-append (print_num i) end in omega arith in
    let s : sets out at (told i end) ≡ sets (sets (sets out at slots) (at + 5) (print_num i)) (at + 5 + length (print_num i)) end
    = sets_append out at slots (print_num i ++ end) ∙ sets_append (sets out at slots) (at + 5) (print_num i) end in
    let t : x ≡ sets out at (told i end) = h ∙ rw (f, e, g) (sym s) in
    (λ j. take (size j) (t j)) ∙ front out at (told i end) (omega arith)
