-- `buffer::lists::list_full_for` meets its contract. Assumes nothing.
use mathlib.Core.List.{List}
use lib.Seq.{take-take}
use Rattle.buffer.specs.Layout.{row}
use Rattle.buffer.specs.Lists.{Listed}
use Rattle.permits.specs.Permits.{full_for}
use Rattle.refusals.specs.Refusals.{above_zero}
use Rattle.buffer.specs.Segments.{part}
use Prim.Native.Nat.{ℕ, ◌+◌, ◌*◌, ◌-◌}
use mathlib.Core.Path.{◌≡◌, ap, ◌∙◌}
use lib.ListN.{get_or, take, drop}
use native.Mathlib.Omega.{arith}
use borrow.Author.Rules.{rules}
use Rattle.buffer.proofs.lists.list_full_for.Goals as goal

-- the places that are lent, as far as they are used, are the list
lent : (b : List ℕ) (k : ℕ) → Listed b k → take (get_or b (50 + k) 0) (part b (55 + 255 * k) (55 + 255 * k + 255 - (55 + 255 * k))) ≡ row b k
lent b k h =
    let at : ℕ = 55 + 255 * k in
    let n : ℕ = get_or b (50 + k) 0 in
    let width : at + 255 - at ≡ 255 = omega arith in
    ap (λ (m : ℕ). take n (part b at m)) width ∙ take-take n 255 (drop at b) h.holds.used

pub full_for-requires : goal.full_for-requires
full_for-requires c =
    let a = c.args in
    record { n_in_bounds = search rules; p_value = rw (lent a.s.now a.k c.requires.listed) c.requires.k_value; most_nonzero = c.requires.most_nonzero }

pub returns : goal.returns
returns c =
    let a = c.args in
    c.full_for.ensures ∙ ap (λ (l : List ℕ). above_zero (full_for a.t a.most l)) (lent a.s.now a.k c.requires.listed)
