-- `buffer::lists::permit_on` meets its contract. Assumes nothing.
use mathlib.Core.Path.{◌≡◌, ap, ◌∙◌}
use Prim.Native.Nat.{ℕ, ◌+◌, ◌*◌, ◌-◌}
use native.Mathlib.Omega.{arith}
use Rattle.buffer.specs.Lists.{permitted}
use mathlib.Core.List.{List}
use lib.ListN.{length, get_or, set}
use Rattle.permits.specs.Permits.{appended}
use Rattle.buffer.specs.Segments.{part, paste}
use Rattle.buffer.proofs.Listing.{back, appended_length}
use Rattle.buffer.proofs.lists.permit_on.Goals as goal

-- a list has 255 places
width : (k : ℕ) → 55 + 255 * k + 255 - (55 + 255 * k) ≡ 255
width k = omega arith

pub append-m-requires : goal.append-m-requires
append-m-requires c = rw (width c.args.k) c.requires.holds

pub returns : goal.returns
unfolding permitted
returns c =
    let a = c.args in
    let b : List ℕ = a.s.now in
    let at : ℕ = 55 + 255 * a.k in
    let is = c.append-m.ensures in
    let y : List ℕ = c.append-m.new.p in
    let new : y ≡ appended (part b at 255) (get_or b (50 + a.k) 0) a.t = is.1 ∙ ap (λ (m : ℕ). appended (part b at m) (get_or b (50 + a.k) 0) a.t) (width a.k) in
    let long : length y ≡ 255 = ap (length {A = ℕ}) new ∙ appended_length (part b at 255) (get_or b (50 + a.k) 0) a.t c.requires.holds in
    λ i. set ((back b at 255 y long ∙ ap (paste b at) new) i) (50 + a.k) (is.0 i)
