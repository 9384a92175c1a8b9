-- Every valid state may begin a record: what a buffer holds, however it came by it. Assumes nothing.
use mathlib.Core.Path.{◌≡◌, refl}
use mathlib.Core.Bool.{true}
use mathlib.Core.List.{List, [], ◌∷◌}
use Prim.Native.Nat.{ℕ, ◌≤◌, min}
use native.Mathlib.Omega.{arith}
use lib.ListN.{length, get_or}
use Rattle.rules.specs.State.{State}
use Rattle.rules.specs.Rules.{short}
use Rattle.rules.specs.Tables.{four, six, of_six}
use Rattle.rules.proofs.Newest.{ascending_rises}
use Rattle.rules.proofs.Demand3.{Starts}
use Rattle.buffer.specs.Good.{valid}
use Rattle.buffer.proofs.Goodness.{each_at_most}
use Rattle.buffer.proofs.Sane.{valid_facts}
use Rattle.buffer.proofs.Keep.{newest_all}

four_list : (l : List ℕ) → length l ≡ 4 → four (λ s. get_or l s 0) ≡ l
four_list (a ∷ b ∷ c ∷ d ∷ []) h = refl
four_list [] h = absurd (omega arith)
four_list (a ∷ []) h = absurd (omega arith)
four_list (a ∷ b ∷ []) h = absurd (omega arith)
four_list (a ∷ b ∷ c ∷ []) h = absurd (omega arith)
four_list (a ∷ b ∷ c ∷ d ∷ x ∷ l) h = absurd (omega arith)

six_list : (l : List ℕ) → length l ≡ 6 → six (of_six l) ≡ l
six_list (a ∷ b ∷ c ∷ d ∷ e ∷ f ∷ []) h = refl
six_list [] h = absurd (omega arith)
six_list (a ∷ []) h = absurd (omega arith)
six_list (a ∷ b ∷ []) h = absurd (omega arith)
six_list (a ∷ b ∷ c ∷ []) h = absurd (omega arith)
six_list (a ∷ b ∷ c ∷ d ∷ []) h = absurd (omega arith)
six_list (a ∷ b ∷ c ∷ d ∷ e ∷ []) h = absurd (omega arith)
six_list (a ∷ b ∷ c ∷ d ∷ e ∷ f ∷ x ∷ l) h = absurd (omega arith)

capped : (l : List ℕ) → length l ≡ 4 → ((i : ℕ) → get_or l i 0 ≤ 255) → four (λ s. min (get_or l s 0) 255) ≡ l
capped (a ∷ b ∷ c ∷ d ∷ []) h g = (λ i. low 0 a (g 0) i ∷ low 1 b (g 1) i ∷ low 2 c (g 2) i ∷ low 3 d (g 3) i ∷ [])
  where
    low : (i x : ℕ) → x ≤ 255 → min x 255 ≡ x
    low i x k = omega arith
capped [] h g = absurd (omega arith)
capped (a ∷ []) h g = absurd (omega arith)
capped (a ∷ b ∷ []) h g = absurd (omega arith)
capped (a ∷ b ∷ c ∷ []) h g = absurd (omega arith)
capped (a ∷ b ∷ c ∷ d ∷ x ∷ l) h g = absurd (omega arith)

pub valid_starts : (v : State) → valid v ≡ true → Starts v
unfolding short
valid_starts v h =
    let f = valid_facts v h in
    let o = f.sane.opening in
    let p = each_at_most 255 _ o.parameters in
    let q = each_at_most 255 _ o.house in
    let w = f.sane.services in
    record {
      sound = record {
        bytes = record { N1 = p 0; F1 = p 2; F2 = p 3; F3 = p 4; F4 = p 5; A1 = q 0; S1 = q 1 };
        rising = λ k. ascending_rises _ _ (v.lists k) f.sane.late (f.rising k);
      };
      short = λ i. record { facts = v.facts; lists = λ k. newest_all (v.lists k) (f.short k) i };
      begins = record {
        counters = six_list _ f.sane.counters.six;
        failures = capped _ w.four_failures (each_at_most 255 _ w.failures);
        ends = four_list _ w.four_ends;
        standing = four_list _ w.four_standing;
      };
    }
