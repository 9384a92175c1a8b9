-- `request::stand` meets its contract. Assumes nothing.
use mathlib.Core.Path.{◌≡◌, refl, sym, ap, ◌∙◌}
use mathlib.Core.List.{List}
use Prim.Native.Nat.{ℕ, ◌<◌}
use native.Mathlib.Omega.{arith}
use lib.ListN.{length, set, replicate}
use lib.Seq.{paste}
use borrow.Author.Tests.{le-leb, lt-leb, ne_eqb}
use borrow.Rule.Slice.PartMut.{mid_of}
use borrow.Author.Rules.{rules}
use Rattle.std.proofs.lemmas.List.Edits.{paste_none, fill_from_more}
use Rattle.std.proofs.lemmas.Slice.{put_mid-paste}
use Rattle.request.specs.Request.{stood}
use Rattle.request.proofs.stand.Goals as goal

-- four zeros, all at once and one after the other
four_zeros : (b : List ℕ) → 42 < length b → paste b 39 (replicate 4 0) 4 ≡ set (set (set (set b 39 0) 40 0) 41 0) 42 0
four_zeros b h =
    sym
    (ap (λ (x : List ℕ). set (set (set (set x 39 0) 40 0) 41 0) 42 0) (paste_none b 39 (replicate 0 0))
    ∙ ap (λ (x : List ℕ). set (set (set x 40 0) 41 0) 42 0) (fill_from_more b 39 0 0 (omega arith))
    ∙ ap (λ (x : List ℕ). set (set x 41 0) 42 0) (fill_from_more b 39 1 0 (omega arith))
    ∙ ap (λ (x : List ℕ). set x 42 0) (fill_from_more b 39 2 0 (omega arith))
    ∙ fill_from_more b 39 3 0 h)

pub returns-in-0-to-3 : goal.returns-in-0-to-3
unfolding stood
returns-in-0-to-3 c = rw (le-leb c.args.q 3 (omega arith))

pub returns-in-4 : goal.returns-in-4
unfolding stood
returns-in-4 c = rw c.in-4.is

pub returns-in_default : goal.returns-in_default
unfolding stood
returns-in_default c =
    let b : List ℕ = c.args.s.now in
    let four : length (mid_of 39 4 b) ≡ 4 = search rules in
    let zeros : c.fill.new.self ≡ replicate 4 0 = c.fill.ensures.after (λ y e. e) ∙ ap (λ (n : ℕ). replicate n 0) four in
    rw (lt-leb c.args.q 3 (omega arith), ne_eqb c.args.q 4 (λ z. grind (arith, z)))
    (put_mid-paste 39 4 b c.fill.new.self (replicate 4 0) 4 zeros refl refl ∙ four_zeros b (omega (arith, c.told-s)))
