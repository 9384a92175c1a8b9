-- One number with a bit for each: its ones are as many as stand, and its trailing zeros find the first. Assumes nothing.
use mathlib.Core.Path.{◌≡◌, refl, ap, ◌∙◌}
use mathlib.Core.Bool.{Bool, true, false, cond}
use mathlib.Core.List.{List, [], ◌∷◌, ◌++◌, append_assoc}
use Prim.Native.Nat.{ℕ, zero, suc, ◌+◌, ◌*◌, ◌/◌, ◌%◌, ◌^◌, ◌≤◌, ◌<◌}
use native.Mathlib.Omega.{arith}
use native.Mathlib.Nat.{pow-suc, pow-le-pow_right}
use lib.Dec.{lit<}
use lib.ListN.{length, get_or, length-append}
use lib.Count.{ones, ones_step, count_trailing_zeros, under}
use Rattle.rules.proofs.Among.{All}
use Rattle.reasons.specs.Why.{bit, bit_at, weigh, how_many}

-- the lowest bit, and the rest
low : (b : Bool) (m : ℕ) → (bit b + 2 * m) % 2 ≡ bit b
low true m = omega arith
low false m = omega arith

rest : (b : Bool) (m : ℕ) → (bit b + 2 * m) / 2 ≡ m
rest true m = omega arith
rest false m = omega arith

-- the count of ones
pub ones_weigh : (bs : List Bool) → ones (weigh bs) ≡ how_many bs
unfolding ones
ones_weigh [] = refl
ones_weigh (b ∷ bs) = ones_step (weigh (b ∷ bs)) ∙ rw (low b (weigh bs), rest b (weigh bs), ones_weigh bs) (go b)
  where
    go : (x : Bool) → bit x + how_many bs ≡ cond x (suc (how_many bs)) (how_many bs)
    go true = omega arith
    go false = omega arith

-- the name of the first that stands, and 0 if none does
abbrev pub first_named : List ℕ → List Bool → ℕ
first_named [] bs = 0
first_named (n ∷ ns) [] = 0
first_named (n ∷ ns) (b ∷ bs) = cond b n (first_named ns bs)

-- it has what 0 and every name have
pub first_named_is : (P : ℕ → Type 0) (ns : List ℕ) (bs : List Bool) → P 0 → All P ns → P (first_named ns bs)
first_named_is P [] bs z h = z
first_named_is P (n ∷ ns) [] z h = z
first_named_is P (n ∷ ns) (b ∷ bs) z h = go b (first_named_is P ns bs z h.1)
  where
    go : (x : Bool) → P (first_named ns bs) → P (cond x n (first_named ns bs))
    go true rest = h.0
    go false rest = rest

-- the trailing zeros find it
pub first_weigh : (k : ℕ) (ns : List ℕ) (bs : List Bool) → length ns ≡ length bs → length bs ≤ k → get_or ns (count_trailing_zeros k (weigh bs)) 0 ≡ first_named ns bs
unfolding count_trailing_zeros
first_weigh k [] bs e h = refl
first_weigh k (n ∷ ns) [] e h = absurd (omega arith)
first_weigh zero (n ∷ ns) (b ∷ bs) e h = absurd (omega arith)
first_weigh (suc k) (n ∷ ns) (b ∷ bs) e h = rw (low b (weigh bs), rest b (weigh bs)) (go b (first_weigh k ns bs (omega arith) (omega arith)))
  where
    go : (x : Bool) → get_or ns (count_trailing_zeros k (weigh bs)) 0 ≡ first_named ns bs → get_or (n ∷ ns) (under (bit x) (count_trailing_zeros k (weigh bs))) 0 ≡ cond x n (first_named ns bs)
    go true ih = refl
    go false ih = ih

-- bit i is set just when i stands
pub bit_weigh : (i : ℕ) (bs : List Bool) → i < length bs → bit_at i (weigh bs) ≡ bit (get_or bs i false)
bit_weigh i [] h = absurd (omega arith)
bit_weigh zero (b ∷ bs) h = low b (weigh bs)
bit_weigh (suc i) (b ∷ bs) h = ap (bit_at i) (rest b (weigh bs)) ∙ bit_weigh i bs (omega arith)

-- so many bits, and no more
pub weigh_lt : (bs : List Bool) → weigh bs < 2 ^ length bs
weigh_lt [] = omega arith
weigh_lt (b ∷ bs) = let h = weigh_lt bs in rw (pow-suc 2 (length bs)) (go b h)
  where
    go : (x : Bool) → weigh bs < 2 ^ length bs → bit x + 2 * weigh bs < 2 ^ length bs * 2
    go true h = omega arith
    go false h = omega arith

-- of eight, where some are still to come
pub weigh_low : (xs rest d : List Bool) → length xs ≡ 8 → xs ≡ rest ++ d → 0 < length rest → weigh d < 128
weigh_low xs rest d e h r =
    let l : length xs ≡ length rest + length d = ap (length {A = Bool}) h ∙ length-append rest d in
    let n : length d ≤ 7 = omega arith in
    let p : 2 ^ length d ≤ 2 ^ 7 = pow-le-pow_right (lit< tt) n in
    let w = weigh_lt d in
    omega (arith, p, w)

-- one more, from the last to the first
pub weighed : (xs rest rest' d : List Bool) (b : Bool) → xs ≡ rest ++ d → rest ≡ rest' ++ (b ∷ []) → xs ≡ rest' ++ (b ∷ d)
weighed xs rest rest' d b h e = h ∙ ap {B = List Bool} (λ r. r ++ d) e ∙ append_assoc rest' (b ∷ []) d
