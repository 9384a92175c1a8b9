-- What the parts of a request do to a buffer that is laid out. Assumes nothing.
use mathlib.Core.Path.{◌≡◌, refl, sym, ap, ◌∙◌, subst}
use mathlib.Core.Bool.{Bool, true, false, cond}
use mathlib.Core.List.{List, [], ◌∷◌, ◌++◌, append-nil}
use mathlib.Core.Logic.{◌≢◌}
use Prim.Native.Nat.{ℕ, zero, suc, ◌+◌, ◌-◌, min, ◌≤◌, ◌<◌}
use native.Mathlib.Omega.{arith}
use lib.Dec.{lit<, leb, eqb}
use lib.ListN.{length, get_or, set}
use borrow.Author.Tests.{leb-true, eq-eqb, ne_eqb}
use Rattle.rules.specs.Tables.{Kind, attach, activation, pdp, sms, reset, goes, among, counting}
use Rattle.rules.specs.Rules.{counted, asked, newest}
use Rattle.rules.specs.State.{Facts, with_counters, with_services, with_due, with_standing, idle}
use Rattle.buffer.specs.Places.{STANDING, COUNTERS, DUE}
use Rattle.buffer.specs.Layout.{rows}
use Rattle.buffer.specs.Good.{Shape}
use Rattle.buffer.specs.Lists.{permitted}
use Rattle.rules.proofs.Among.{among_all, not_among}
use Rattle.buffer.proofs.Keep.{newest_all}
use Rattle.buffer.proofs.Laid.{all_four, Laid, laid_as, laid_shape, laid_shaped, laid_counter, counter_at, laid_standing, laid_due, laid_permit}
use Rattle.request.specs.Request.{bumped, tallied, stood, listed, sent}

abbrev pub stands_at : Facts → List ℕ → Facts
stands_at f l = with_services f (with_standing f.services l)

-- an answer that raises a counter has one of the six
pub counter_of : (n : ℕ) → among n counting ≡ true → (11 ≤ n) × (n - 11 < 6)
counter_of n e = among_all (λ m. (11 ≤ m) × (m - 11 < 6)) n counting (omega arith) e

-- and the six are 11 to 16
counting_at : (k : ℕ) → k < 6 → among (11 + k) counting ≡ true
counting_at zero h = refl
counting_at (suc zero) h = refl
counting_at (suc (suc zero)) h = refl
counting_at (suc (suc (suc zero))) h = refl
counting_at (suc (suc (suc (suc zero)))) h = refl
counting_at (suc (suc (suc (suc (suc zero))))) h = refl
counting_at (suc (suc (suc (suc (suc (suc k)))))) h = absurd (omega arith)

pub tally_on : (b : List ℕ) (n : ℕ) → 11 ≤ n → n ≤ 16 → bumped b (n - 11) ≡ tallied b n
unfolding tallied
tally_on b n h k =
    let e : 11 + (n - 11) ≡ n = omega arith in
    rw (ap (λ (m : ℕ). among m counting) (sym e) ∙ counting_at (n - 11) (omega arith))

pub tally_below : (b : List ℕ) (n : ℕ) → n < 11 → b ≡ tallied b n
unfolding tallied
tally_below b n h = rw (not_among n counting (omega arith))

pub tally_above : (b : List ℕ) (n : ℕ) → 16 < n → b ≡ tallied b n
unfolding tallied
tally_above b n h = rw (not_among n counting (omega arith))

module _ {b : List ℕ} {f : Facts} {rs : List (List ℕ)} (l : Laid b f rs) where
  idle_laid : Laid (set (set (set (set b STANDING 0) (STANDING + 1) 0) (STANDING + 2) 0) (STANDING + 3) 0) (stands_at f idle) rs
  idle_laid =
      subst (λ (x : List ℕ). Laid (set (set (set (set b STANDING 0) (STANDING + 1) 0) (STANDING + 2) 0) (STANDING + 3) 0) (stands_at f x) rs) (all_four f.services.standing l.shaped.standing)
      (laid_standing (laid_standing (laid_standing (laid_standing l 0 0 (lit< tt)) 1 0 (lit< tt)) 2 0 (lit< tt)) 3 0 (lit< tt))

  pub laid_stood : (q : ℕ) → Laid (stood b q) (stands_at f (asked q f.services.standing)) rs
  unfolding stood asked
  laid_stood q = go (leb q 3) (eqb q 4) refl
    where
      go : (x y : Bool) → leb q 3 ≡ x
          → Laid (cond x (set b (STANDING + q) 1) (cond y (set b (STANDING + 2) 0) (set (set (set (set b STANDING 0) (STANDING + 1) 0) (STANDING + 2) 0) (STANDING + 3) 0)))
          (stands_at f (cond x (set f.services.standing q 1) (cond y (set f.services.standing 2 0) idle)))
          rs
      go true y e = let h = leb-true q 3 e in laid_standing l q 1 (omega arith)
      go false true e = laid_standing l 2 0 (lit< tt)
      go false false e = idle_laid

  bump_laid : (i : ℕ) → i < 6 → Laid (bumped b i) (with_counters f (set f.counters i (min (get_or f.counters i 0 + 1) 255))) rs
  bump_laid i h =
      subst (λ (x : ℕ). Laid (bumped b i) (with_counters f (set f.counters i (min (x + 1) 255))) rs) (counter_at l i h) (laid_counter l i (min (get_or b (COUNTERS + i) 0 + 1) 255) h)

  pub laid_tallied : (n : ℕ) → Laid (tallied b n) (with_counters f (counted n f.counters)) rs
  unfolding tallied counted
  laid_tallied n = go (among n counting) refl
    where
      go : (x : Bool) → among n counting ≡ x
          → Laid (cond x (bumped b (n - 11)) b)
          (with_counters f (cond x (set f.counters (n - 11) (min (get_or f.counters (n - 11) 0 + 1) 255)) f.counters))
          rs
      go true e = bump_laid (n - 11) (counter_of n e).1
      go false e = l

-- the five lists after a permit of request q
abbrev pub after : (Kind → List ℕ) → ℕ → ℕ → Kind → List ℕ
after l q t k = newest (l k ++ cond (goes q k) (t ∷ []) [])

module _ {b : List ℕ} {f : Facts} (l : Kind → List ℕ) (w : Laid b f (rows l)) (short : (k : Kind) → length (l k) ≤ 255) (t : ℕ) where
  same : (k : Kind) → l k ≡ newest (l k ++ [])
  same k = sym (rw append-nil (newest_all (l k) (short k)))

  added : Kind → List ℕ
  added k = newest (l k ++ (t ∷ []))

  pub laid_filed : (q : ℕ) → q ≤ 5 → Laid (listed b q t) f (rows (after l q t))
  unfolding listed added
  laid_filed zero h = subst (λ (rs : List (List ℕ)). Laid (permitted b 0 t) f rs) (λ i. added attach ∷ same activation i ∷ same pdp i ∷ same sms i ∷ same reset i ∷ []) (laid_permit w 0 t (lit< tt))
  laid_filed (suc zero) h = subst (λ (rs : List (List ℕ)). Laid (permitted b 0 t) f rs) (λ i. added attach ∷ same activation i ∷ same pdp i ∷ same sms i ∷ same reset i ∷ []) (laid_permit w 0 t (lit< tt))
  laid_filed (suc (suc zero)) h = subst (λ (rs : List (List ℕ)). Laid (permitted (permitted b 1 t) 2 t) f rs) (λ i. same attach i ∷ added activation ∷ added pdp ∷ same sms i ∷ same reset i ∷ []) (laid_permit (laid_permit w 1 t (lit< tt)) 2 t (lit< tt))
  laid_filed (suc (suc (suc zero))) h = subst (λ (rs : List (List ℕ)). Laid (permitted b 3 t) f rs) (λ i. same attach i ∷ same activation i ∷ same pdp i ∷ added sms ∷ same reset i ∷ []) (laid_permit w 3 t (lit< tt))
  laid_filed (suc (suc (suc (suc zero)))) h = subst (λ (rs : List (List ℕ)). Laid (permitted b 2 t) f rs) (λ i. same attach i ∷ same activation i ∷ added pdp ∷ same sms i ∷ same reset i ∷ []) (laid_permit w 2 t (lit< tt))
  laid_filed (suc (suc (suc (suc (suc zero))))) h = subst (λ (rs : List (List ℕ)). Laid (permitted b 4 t) f rs) (λ i. same attach i ∷ same activation i ∷ same pdp i ∷ same sms i ∷ added reset ∷ []) (laid_permit w 4 t (lit< tt))
  laid_filed (suc (suc (suc (suc (suc (suc q)))))) h = absurd (omega arith)

-- all that a permit of request q changes
pub laid_sent : {b : List ℕ} {f : Facts} (l : Kind → List ℕ) → Laid b f (rows l) → ((k : Kind) → length (l k) ≤ 255) → (t q : ℕ) → q ≤ 5
    → Laid (sent b q t) (with_due (stands_at f (asked q f.services.standing)) (cond (eqb q 5) 0 f.due)) (rows (after l q t))
unfolding sent
laid_sent {b} {f} l w short t q h = go (eqb q 5) (laid_filed l (laid_stood w q) short t q h)
  where
    go : (x : Bool) → Laid (listed (stood b q) q t) (stands_at f (asked q f.services.standing)) (rows (after l q t))
        → Laid (cond x (set (listed (stood b q) q t) DUE 0) (listed (stood b q) q t)) (with_due (stands_at f (asked q f.services.standing)) (cond x 0 f.due)) (rows (after l q t))
    go true k = laid_due k 0
    go false k = k

-- the same from what each part left
pub stood_shape : (b : List ℕ) (q : ℕ) {x : List ℕ} → x ≡ stood b q → Shape b → Shape x
stood_shape b q d h = laid_shape (laid_as (laid_stood (laid_shaped b h) q) d)

module _ (b : List ℕ) (q t : ℕ) {x y : List ℕ} (d : x ≡ stood b q) (e : y ≡ listed x q t) where
  filed : y ≡ listed (stood b q) q t
  filed = e ∙ ap (λ (x : List ℕ). listed x q t) d

  pub sent_reset : q ≡ 5 → {z : List ℕ} → z ≡ set y DUE 0 → z ≡ sent b q t
  unfolding sent
  sent_reset h k = rw (eq-eqb q 5 h) (k ∙ ap (λ (y : List ℕ). set y DUE 0) filed)

  pub sent_other : q ≢ 5 → y ≡ sent b q t
  unfolding sent
  sent_other h = rw (ne_eqb q 5 h) filed
