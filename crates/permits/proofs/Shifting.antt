-- The laws of one list's places: what a shift leaves, and what `appended` is with room and without.
-- Assumes nothing.
use mathlib.Core.Path.{◌≡◌, sym, ap, ◌∙◌}
use mathlib.Core.List.{List, [], ◌∷◌, ◌++◌, append-nil}
use Prim.Native.Nat.{ℕ, suc, ◌+◌, ◌-◌, ◌≤◌, ◌<◌, min}
use native.Mathlib.Nat.{zero-add}
use native.Mathlib.Numerals.{add-one}
use native.Mathlib.Omega.{arith}
use lib.ListN.{length, take, drop, get_or, set, replicate, length-append, length-drop, drop_of_length-le}
use lib.Seq.{take_all, set_at, drop-cons, paste, drop-append-le, set_split, drop-drop, append_snoc, length-take-le}
use Rattle.std.proofs.lemmas.List.Edits.{paste_all}
use Rattle.rules.specs.Rules.{newest}
use Rattle.permits.specs.Permits.{Holds, appended}

-- p with its elements from 1 on moved one down, and t in the last place
pub shift_end : (p : List ℕ) (k t : ℕ) → length p ≡ suc k → set (paste p 0 (drop 1 p) k) k t ≡ drop 1 p ++ (t ∷ [])
shift_end p k t h =
    let l : length (drop 1 p) ≡ k = simp length-drop (omega arith) in
    let e : drop (0 + k) p ≡ get_or p k 0 ∷ [] = rw zero-add (drop-cons p k 0 (omega arith) ∙ ap (λ (r : List ℕ). get_or p k 0 ∷ r) (drop_of_length-le p {i = suc k} (omega arith))) in
    ap (λ (m : List ℕ). set m k t) (paste_all p 0 (drop 1 p) k (sym l) ∙ ap (λ (r : List ℕ). drop 1 p ++ r) e)
    ∙ set_at (drop 1 p) (get_or p k 0) [] t k l

-- no room: the oldest goes
pub appended_full : (p : List ℕ) (n t : ℕ) → length p ≡ 255 → 255 ≤ n → appended p n t ≡ drop 1 p ++ (t ∷ [])
unfolding newest
appended_full p n t h g =
    let l1 : length (p ++ (t ∷ [])) - 255 ≡ 1 = simp length-append (omega arith) in
    let l2 : 255 - length (drop 1 p ++ (t ∷ [])) ≡ 0 = simp (length-append, length-drop) (omega arith) in
    let g' : length p ≤ n = omega arith in
    let g'' : 1 ≤ length p = omega arith in
    rw (take_all, l1, drop-append-le, l2, append-nil)

-- room: t goes to the first place that is not in use
pub appended_room : (p : List ℕ) (n t : ℕ) → Holds p n → n < 255 → appended p n t ≡ set p n t
unfolding newest
appended_room p n t h g =
    let l : length p ≡ 255 = h.long in
    let lt : n < length p = omega arith in
    let l0 : length (take n p) ≡ n = length-take-le n p (omega arith) in
    let l1 : length (take n p ++ (t ∷ [])) ≡ n + 1 = simp (length-append, l0) (omega arith) in
    let z : 255 - n ≡ suc (254 - n) = omega arith in
    let r : drop (suc n) p ≡ replicate (254 - n) 0 = ap (λ (k : ℕ). drop k p) (sym (add-one n)) ∙ sym (drop-drop 1 n p) ∙ ap (drop 1) h.zeros ∙ ap (λ (k : ℕ). drop 1 (replicate k 0)) z in
    let e1 : n + 1 - 255 ≡ 0 = omega arith in
    let e2 : 255 - (n + 1) ≡ 254 - n = omega arith in
    rw (set_split, r, l1, e1, l1, e2) (append_snoc (take n p) t (replicate (254 - n) 0))

pub newest_length : (l : List ℕ) → length (newest l) ≡ min (length l) 255
unfolding newest
newest_length l = simp length-drop (omega arith)
