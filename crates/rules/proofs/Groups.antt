-- The four services' numbers and the six counters as lists: what a store changes. Assumes nothing.
use Prim.Native.Nat.{ℕ, zero, suc, ◌+◌, min, ◌≤◌}
use mathlib.Core.Path.{◌≡◌, refl, ap, ◌∙◌}
use mathlib.Core.Bool.{Bool, true, false, cond}
use lib.ListN.{get_or, set}
use lib.Dec.{leb, eqb}
use borrow.Author.Tests.{ne_eqb}
use native.Mathlib.Omega.{arith}
use Rattle.rules.specs.Calls.{Counter, C_BR_1, C_R_1, C_PDP_1, C_PDP_2, C_PDP_3, C_PDP_4}
use Rattle.rules.specs.Tables.{four, six, of_six, among, counting, one_more, raises}
use Rattle.rules.specs.Rules.{counted, asked}
use Rattle.rules.specs.State.{idle}
use Rattle.rules.specs.Record.{stands_asked}
use Rattle.rules.proofs.Among.{among_all, among_none}

pub of_four : (f : ℕ → ℕ) (s : ℕ) → s ≤ 3 → get_or (four f) s 0 ≡ f s
of_four f zero h = refl
of_four f (suc zero) h = refl
of_four f (suc (suc zero)) h = refl
of_four f (suc (suc (suc zero))) h = refl
of_four f (suc (suc (suc (suc s)))) h = absurd (omega arith)

pub of_six_is : (f : Counter → ℕ) (k : Counter) → of_six (six f) k ≡ f k
of_six_is f C_BR_1 = refl
of_six_is f C_R_1 = refl
of_six_is f C_PDP_1 = refl
of_six_is f C_PDP_2 = refl
of_six_is f C_PDP_3 = refl
of_six_is f C_PDP_4 = refl

pub four_path : {f g : ℕ → ℕ} → ((s : ℕ) → f s ≡ g s) → four f ≡ four g
four_path p i = four (λ s. p s i)

pub six_path : {f g : Counter → ℕ} → ((k : Counter) → f k ≡ g k) → six f ≡ six g
six_path p i = six (λ k. p k i)

pub four_cond : (b : Bool) (f g : ℕ → ℕ) → cond b (four f) (four g) ≡ four (λ s. cond b (f s) (g s))
four_cond true f g = refl
four_cond false f g = refl

-- a store for service u of something that hangs on its number
pub set_four : (f e h : ℕ → ℕ) (u : ℕ) → set (four e) u (h (get_or (four f) u 0)) ≡ four (λ s. cond (eqb u s) (h (f s)) (e s))
set_four f e h zero = refl
set_four f e h (suc zero) = refl
set_four f e h (suc (suc zero)) = refl
set_four f e h (suc (suc (suc zero))) = refl
set_four f e h (suc (suc (suc (suc u)))) =
    let n = suc (suc (suc (suc u))) in
    rw (ne_eqb n 0 (omega arith), ne_eqb n 1 (omega arith), ne_eqb n 2 (omega arith), ne_eqb n 3 (omega arith))

-- ---- Back-off

-- a service that backed off n times in a row; where b holds, it does so once more, at time t with a
-- wait by `w` of its failures
pub once_more : (b : Bool) (n : ℕ) → cond b (one_more (min n 255)) (min n 255) ≡ min (cond b (suc n) n) 255
once_more true n = omega arith
once_more false n = refl

pub end_more : (b : Bool) (n : ℕ) (w : ℕ → ℕ) (t end : ℕ) → cond b (t + w (one_more (min n 255))) end ≡ cond b (t + w (min (cond b (suc n) n) 255)) end
end_more true n w t end = ap (λ (m : ℕ). t + w m) (once_more true n)
end_more false n w t end = refl

-- where service u is cleared
pub failures_cleared : (u : ℕ) (row : ℕ → ℕ) → set (four (λ s. min (row s) 255)) u 0 ≡ four (λ s. min (cond (eqb u s) 0 (row s)) 255)
failures_cleared u row = set_four (λ s. 0) (λ s. min (row s) 255) (λ n. 0) u ∙ four_path (λ s. at s (eqb u s))
  where
    at : (s : ℕ) (y : Bool) → cond y 0 (min (row s) 255) ≡ min (cond y 0 (row s)) 255
    at s true = refl
    at s false = refl

-- ---- Standing

pub asked_four : (q : ℕ) (f : ℕ → ℕ) → asked q (four f) ≡ four (λ s. stands_asked s q (f s))
unfolding asked
asked_four q f = go (leb q 3) (eqb q 4)
  where
    go : (x y : Bool) → cond x (set (four f) q 1) (cond y (set (four f) 2 0) idle) ≡ four (λ s. cond x (cond (eqb q s) 1 (f s)) (cond y (cond (eqb 2 s) 0 (f s)) 0))
    go true y = set_four f f (λ n. 1) q
    go false true = refl
    go false false = refl

-- ---- Counters

pub counted_six : (n : ℕ) (f : Counter → ℕ) → counted n (six f) ≡ six (λ k. cond (raises k n) (one_more (f k)) (f k))
unfolding counted
counted_six n f = go (among n counting) refl
  where
    P : ℕ → Type 0
    P m = counted m (six f) ≡ six (λ k. cond (raises k m) (one_more (f k)) (f k))

    go : (b : Bool) → among n counting ≡ b → P n
    go true e = among_all P n counting (refl, (refl, (refl, (refl, (refl, (refl, tt)))))) e
    go false e = let no = among_none n counting e in rw (e, no.0, no.1.0, no.1.1.0, no.1.1.1.0, no.1.1.1.1.0, no.1.1.1.1.1.0)
