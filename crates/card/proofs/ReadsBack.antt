-- The counter file that is written is a counter file, and holds the counters that it is written
-- from. Assumes nothing.
use mathlib.Core.Path.{◌≡◌, refl}
use mathlib.Core.Bool.{true}
use mathlib.Core.List.{List, [], ◌∷◌, ◌++◌}
use Prim.Native.Nat.{ℕ, zero, suc, ◌<◌}
use native.Mathlib.Omega.{arith}
use lib.ListN.{length, get_or}
use Rattle.card.specs.Card.{blank, file, counter_file, written}

pub written_is_file : (c : List ℕ) → counter_file (written c) ≡ true
unfolding blank file written
written_is_file c = refl

pub written_reads_back : (c : List ℕ) (i : ℕ) → i < 6 → get_or (written c) i 0 ≡ get_or c i 0
unfolding written
written_reads_back c zero h = refl
written_reads_back c (suc zero) h = refl
written_reads_back c (suc (suc zero)) h = refl
written_reads_back c (suc (suc (suc zero))) h = refl
written_reads_back c (suc (suc (suc (suc zero)))) h = refl
written_reads_back c (suc (suc (suc (suc (suc zero))))) h = refl
written_reads_back c (suc (suc (suc (suc (suc (suc i)))))) h = absurd (omega arith)

-- six bytes before others, one by one
pub six : (c x : List ℕ) → length c ≡ 6 → c ++ x ≡ get_or c 0 0 ∷ get_or c 1 0 ∷ get_or c 2 0 ∷ get_or c 3 0 ∷ get_or c 4 0 ∷ get_or c 5 0 ∷ x
six [] x h = absurd (omega arith)
six (a ∷ []) x h = absurd (omega arith)
six (a ∷ b ∷ []) x h = absurd (omega arith)
six (a ∷ b ∷ c ∷ []) x h = absurd (omega arith)
six (a ∷ b ∷ c ∷ d ∷ []) x h = absurd (omega arith)
six (a ∷ b ∷ c ∷ d ∷ e ∷ []) x h = absurd (omega arith)
six (a ∷ b ∷ c ∷ d ∷ e ∷ f ∷ []) x h = refl
six (a ∷ b ∷ c ∷ d ∷ e ∷ f ∷ g ∷ l) x h = absurd (omega arith)
