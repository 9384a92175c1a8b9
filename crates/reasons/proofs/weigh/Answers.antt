-- `reasons::weigh` meets its contract: what is weighed stands behind the rest. Assumes nothing.
use mathlib.Core.Path.{◌≡◌, refl, sym, ap, ◌∙◌}
use mathlib.Core.Bool.{Bool, true, false}
use mathlib.Core.List.{List, [], ◌∷◌, ◌++◌, append-nil}
use Prim.Native.Nat.{ℕ, ◌+◌, ◌*◌, ◌<◌, ◌≤◌}
use native.Mathlib.Omega.{arith}
use lib.ListN.{length, length-append}
use borrow.Author.Rules.{rules}
use mir.Val.{bool_byte}
use Rattle.reasons.specs.Why.{bit, weigh}
use Rattle.reasons.proofs.Bits.{weigh_low, weighed}
use Rattle.reasons.proofs.weigh.Goals as goal

-- one bit more
one_more : (b : Bool) (m n : ℕ) → m ≡ n → 2 * m + bool_byte b ≡ bit b + 2 * n
one_more true m n e = omega arith
one_more false m n e = omega arith

one : (b : Bool) → bool_byte b ≤ 1
one true = omega arith
one false = omega arith

-- there is a last of the rest
some : (xs ys : List Bool) (b : Bool) → xs ≡ ys ++ (b ∷ []) → 0 < length xs
some xs ys b e = let l : length xs ≡ length ys + 1 = ap (length {A = Bool}) e ∙ length-append ys (b ∷ []) in omega arith

-- nothing is left
all : (xs ys d : List Bool) → xs ≡ ys ++ d → length ys ≡ 0 → d ≡ xs
all xs [] d e h = sym e
all xs (y ∷ ys) d e h = absurd (omega arith)

pub loop-b-init : goal.loop-b-init
loop-b-init c =
    let e : c.into_iter-b-iterator.result.iter.rest.now ≡ c.args.stands.now = search rules in
    ([], (sym (append-nil _ ∙ e), refl))

pub overflow_mul-bits : goal.overflow_mul-bits
overflow_mul-bits c =
    let i = c.loop-b.invariant in
    let w = weigh_low c.args.stands.now c.loop-b.b-iterator.iter.rest.now i.0 c.told-stands i.1.0 (some _ _ _ c.in-Some.ensures.steps) in
    omega (arith, w, i.1.1)

pub overflow_add-bits : goal.overflow_add-bits
overflow_add-bits c =
    let i = c.loop-b.invariant in
    let w = weigh_low c.args.stands.now c.loop-b.b-iterator.iter.rest.now i.0 c.told-stands i.1.0 (some _ _ _ c.in-Some.ensures.steps) in
    omega (arith, w, i.1.1, c.from.ensures, one c.in-Some.b.now)

pub loop-b-preserved : goal.loop-b-preserved
loop-b-preserved c =
    let i = c.loop-b.invariant in
    let b = c.in-Some.b.now in (
      b ∷ i.0,
      (
        weighed c.args.stands.now c.loop-b.b-iterator.iter.rest.now c.next.new.self.iter.rest.now i.0 b i.1.0 c.in-Some.ensures.steps,
        ap (λ (n : ℕ). 2 * c.loop-b.bits + n) c.from.ensures ∙ one_more b _ _ i.1.1,
      ),
    )

pub returns : goal.returns
returns c =
    let i = c.loop-b.invariant in
    i.1.1 ∙ ap weigh (all c.args.stands.now c.loop-b.b-iterator.iter.rest.now i.0 i.1.0 c.in-None.ensures.steps.0)
