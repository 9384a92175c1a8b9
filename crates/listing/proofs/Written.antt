-- What is written as a record is printed, with the answer that was written. Assumes nothing.
use mathlib.Core.Path.{◌≡◌}
use mathlib.Core.Bool.{true}
use mathlib.Core.List.{List, [], ◌∷◌, ◌++◌}
use Rattle.std.specs.Prelude.{Some}
use Prim.Native.Nat.{ℕ, ◌+◌, ◌-◌, ◌*◌}
use native.Mathlib.Omega.{arith}
use lib.ListN.{length, take, drop, replicate, length-append}
use lib.Seq.{take_at, drop_at}
use Rattle.rules.specs.declared.Answer.{Answer}
use Rattle.image.specs.Image.{image_of, Words}
use Rattle.image.proofs.Returns.{returns, image_length}
use Rattle.calls.specs.Letters.{letter_a}
use Rattle.records.specs.Records.{Noted, times, types, letter_of, arguments_of, packed, encoded, Fits}
use Rattle.records.proofs.Records.{parsed_back, same_self}
use Rattle.listing.specs.Listing.{listed, answer_from, answer_in, acceptable, line_in}

-- both numbers have 32 bits
abbrev pub AnswerFits : Answer → Type 0
AnswerFits a = Words (a.number ∷ a.second ∷ [])

-- the answer stands behind the letter and the call's bytes
packed_answer : (x : ℕ) (body : List ℕ) (a : Answer) (i : ℕ) → i ≡ 1 + length body → AnswerFits a → answer_from i (packed x body a) ≡ a
unfolding answer_from packed
packed_answer x body a i e w =
    let v : List ℕ = a.number ∷ a.second ∷ [] in
    let rest : List ℕ = replicate (119 - length body) 0 in
    let behind : drop i (x ∷ (body ++ (image_of v ++ rest))) ≡ image_of v ++ rest = drop_at (x ∷ body) (image_of v ++ rest) i (omega arith) in
    let eight : take 8 (image_of v ++ rest) ≡ image_of v = take_at (image_of v) rest 8 (image_length v) in
    rw (behind, eight, returns v w)

answer_back : (n : Noted) (a : Answer) → AnswerFits a → answer_in n (encoded n a) ≡ a
unfolding encoded
answer_back (times t e) a w =
    let l : List ℕ = t ∷ arguments_of e in
    packed_answer (letter_of e) (image_of l) a (1 + 4 * length l) (omega (arith, image_length l)) w
answer_back (types l) a w =
    let size : List ℕ = image_of (length l ∷ []) in
    packed_answer letter_a (size ++ l) a (5 + length l) (omega (arith, image_length (length l ∷ []), length-append size l)) w

-- The record of a call, with its answer, is printed as the call's line with that answer. Of an AT
-- line that is so where the gate takes it.
pub written_printed : (n : Noted) (a : Answer) → Fits n → AnswerFits a → acceptable n ≡ true → line_in (encoded n a) ≡ Some (listed n a)
unfolding line_in
written_printed n a f w h = rw (parsed_back n a f, answer_back n a w, same_self (encoded n a), h)
