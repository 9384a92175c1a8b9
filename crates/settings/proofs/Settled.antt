-- What AT lines make of a buffer that is laid out. Assumes nothing.
use mathlib.Core.Path.{subst}
use mathlib.Core.Bool.{Bool, true, false, cond}
use mathlib.Core.List.{List}
use Prim.Native.Nat.{ℕ}
use lib.Dec.{lit<, eqb}
use lib.ListN.{set}
use Rattle.rules.specs.Rules.{switched}
use Rattle.rules.specs.State.{Facts, with_mode, with_services, with_backoffs, idle}
use Rattle.buffer.specs.Places.{NFM, START}
use Rattle.buffer.proofs.Laid.{Laid, with_numbers, all_four, laid_nfm, laid_start}
use Rattle.backoff.specs.Backoffs.{clear}
use Rattle.backoff.proofs.Backoffs.{laid_stored}
use Rattle.settings.specs.Settings.{calmed, turned}

abbrev quiet : Facts → Facts
quiet f = with_services f (with_backoffs f.services idle idle)

-- all four services without failure and end
laid_calmed : {b : List ℕ} {f : Facts} {rs : List (List ℕ)} → Laid b f rs → Laid (calmed b) (quiet f) rs
laid_calmed {b} {f} {rs} l =
    subst (λ (x : List ℕ). Laid (calmed b) (with_numbers f x idle f.services.standing f.services.mood) rs) (all_four f.services.failures l.shaped.failures)
    (subst (λ (x : List ℕ). Laid (calmed b) (with_numbers f (set (set (set (set f.services.failures 0 0) 1 0) 2 0) 3 0) x f.services.standing f.services.mood) rs) (all_four f.services.ends l.shaped.ends)
    (laid_stored (laid_stored (laid_stored (laid_stored l 0 (lit< tt) clear) 1 (lit< tt) clear) 2 (lit< tt) clear) 3 (lit< tt) clear))

pub laid_turned : {b : List ℕ} {f : Facts} {rs : List (List ℕ)} → Laid b f rs → (a s : ℕ) → Laid (turned b a s) (switched a s f) rs
unfolding turned switched
laid_turned {b} {f} {rs} l a s = go (eqb a 0)
  where
    m : Laid (set (set b NFM a) START s) (with_mode f (record { nfm = a; start = s; intervals = f.mode.intervals })) rs
    m = laid_start (laid_nfm l a) s

    go : (x : Bool) → Laid (cond x (calmed (set (set b NFM a) START s)) (set (set b NFM a) START s))
        (with_services (with_mode f (record { nfm = a; start = s; intervals = f.mode.intervals }))
        (with_backoffs f.services (cond x idle f.services.failures) (cond x idle f.services.ends)))
        rs
    go true = laid_calmed m
    go false = m
