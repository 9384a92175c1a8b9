-- The clock and the leaks, on a buffer that is laid out. Assumes nothing.
use mathlib.Core.Path.{◌≡◌, refl, subst}
use mathlib.Core.Bool.{true}
use mathlib.Core.List.{List, [], ◌∷◌}
use Prim.Native.Nat.{ℕ, zero, suc, ◌+◌, ◌-◌, ◌≤◌, ◌<◌}
use native.Mathlib.Omega.{arith}
use lib.Dec.{lit<}
use lib.ListN.{length, get_or, set}
use Rattle.rules.specs.Rules.{points, moved}
use Rattle.rules.specs.State.{Facts, with_counters}
use Rattle.buffer.specs.Places.{LAST, RATES, COUNTERS}
use Rattle.buffer.specs.Layout.{spread, rows, facts_of, view}
use Rattle.buffer.specs.Good.{good, rates}
use Rattle.buffer.proofs.Goodness.{each_at_most}
use Rattle.buffer.proofs.Sane.{good_sane}
use Rattle.buffer.proofs.Laid.{Laid, laid_good, laid_as, laid_last, laid_counter, counter_at}
use Rattle.clock.specs.Clock.{passed_of, drained, leaked}

-- the leak rates of a good buffer are bytes
pub rate_low : (b : List ℕ) → good b ≡ true → (i : ℕ) → i < 3 → get_or b (RATES + i) 0 ≤ 255
unfolding facts_of
rate_low b g i h = go i h
  where
    at : (i : ℕ) → get_or (rates (facts_of b).opening) i 0 ≤ 255
    at = each_at_most 255 (rates (facts_of b).opening) (good_sane b g).opening.rates

    go : (i : ℕ) → i < 3 → get_or b (RATES + i) 0 ≤ 255
    go zero h = at 0
    go (suc zero) h = at 1
    go (suc (suc zero)) h = at 2
    go (suc (suc (suc i))) h = absurd (omega arith)

abbrev lose : List ℕ → ℕ → ℕ → List ℕ
lose l i g = set l i (get_or l i 0 - g)

drain_laid : {b : List ℕ} {f : Facts} {rs : List (List ℕ)} → Laid b f rs → (i g : ℕ) → i < 6 → Laid (drained b i g) (with_counters f (lose f.counters i g)) rs
drain_laid {b} {f} {rs} l i g h =
    subst (λ (x : ℕ). Laid (drained b i g) (with_counters f (set f.counters i (x - g))) rs) (counter_at l i h) (laid_counter l i (get_or b (COUNTERS + i) 0 - g) h)

all_six : (l : List ℕ) (g1 g2 g3 : ℕ) → length l ≡ 6
    → lose (lose (lose (lose (lose (lose l 0 g1) 1 g2) 2 g3) 3 g3) 4 g3) 5 g3
    ≡ (get_or l 0 0 - g1) ∷ (get_or l 1 0 - g2) ∷ (get_or l 2 0 - g3) ∷ (get_or l 3 0 - g3) ∷ (get_or l 4 0 - g3) ∷ (get_or l 5 0 - g3) ∷ []
all_six (a ∷ b ∷ c ∷ d ∷ e ∷ f ∷ []) g1 g2 g3 h = refl
all_six [] g1 g2 g3 h = absurd (omega arith)
all_six (a ∷ []) g1 g2 g3 h = absurd (omega arith)
all_six (a ∷ b ∷ []) g1 g2 g3 h = absurd (omega arith)
all_six (a ∷ b ∷ c ∷ []) g1 g2 g3 h = absurd (omega arith)
all_six (a ∷ b ∷ c ∷ d ∷ []) g1 g2 g3 h = absurd (omega arith)
all_six (a ∷ b ∷ c ∷ d ∷ e ∷ []) g1 g2 g3 h = absurd (omega arith)
all_six (a ∷ b ∷ c ∷ d ∷ e ∷ f ∷ x ∷ l) g1 g2 g3 h = absurd (omega arith)

leak_laid : {b : List ℕ} {f : Facts} {rs : List (List ℕ)} → Laid b f rs → (g1 g2 g3 : ℕ)
    → Laid (leaked b g1 g2 g3) (with_counters f ((get_or f.counters 0 0 - g1) ∷ (get_or f.counters 1 0 - g2) ∷ (get_or f.counters 2 0 - g3) ∷ (get_or f.counters 3 0 - g3) ∷ (get_or f.counters 4 0 - g3) ∷ (get_or f.counters 5 0 - g3) ∷ [])) rs
unfolding leaked
leak_laid {b} {f} {rs} l g1 g2 g3 =
    subst (λ (x : List ℕ). Laid (leaked b g1 g2 g3) (with_counters f x) rs) (all_six f.counters g1 g2 g3 l.shaped.counters)
    (drain_laid (drain_laid (drain_laid (drain_laid (drain_laid (drain_laid l 0 g1 (lit< tt)) 1 g2 (lit< tt)) 2 g3 (lit< tt)) 3 g3 (lit< tt)) 4 g3 (lit< tt)) 5 g3 (lit< tt))

pub clock_laid : (b : List ℕ) → good b ≡ true → (t : ℕ) (x : List ℕ) → x ≡ set (leaked b (passed_of b 0 t) (passed_of b 1 t) (passed_of b 2 t)) LAST t
    → Laid x (moved t (facts_of b)) (rows (view b).lists)
unfolding moved points facts_of
clock_laid b g t x e = laid_as (laid_last (leak_laid (laid_good b g) _ _ _) t) e

-- a buffer after the clock
pub laid_moved : (b : List ℕ) → good b ≡ true → (t : ℕ) {x : List ℕ} → x ≡ spread (moved t (facts_of b)) (rows (view b).lists) → Laid x (moved t (facts_of b)) (rows (view b).lists)
unfolding moved
laid_moved b g t e =
    let s = (laid_good b g).shaped in
    record {
      shaped = record { intervals = s.intervals; failures = s.failures; ends = s.ends; standing = s.standing; counters = refl; five = s.five; short = s.short };
      is = e;
    }
