-- Back-offs on a good buffer: what the parts make of it, and how long they wait. Assumes nothing.
use mathlib.Core.Path.{◌≡◌, sym, ap, ◌∙◌}
use mathlib.Core.Bool.{Bool, true, false, cond}
use mathlib.Core.List.{List}
use Prim.Native.Nat.{ℕ, ◌+◌, ◌-◌, ◌*◌, ◌%◌, ◌^◌, ◌≤◌, ◌<◌, min}
use native.Mathlib.Omega.{arith}
use lib.Dec.{eqb}
use borrow.Author.Tests.{eq-eqb}
use lib.ListN.{length, get_or, set}
use Rattle.mixing.specs.Mixing.{mixed, drawn}
use Rattle.rules.specs.declared.Answer.{Answer}
use Rattle.rules.specs.Tables.{highest_time, one_more, interval, wait_for}
use Rattle.rules.specs.Rules.{wait, failed}
use Rattle.rules.specs.State.{Facts, Services, with_services}
use Rattle.rules.proofs.Checks.{failed_wait}
use Rattle.buffer.specs.Places.{QUOTIENT, REMAINDER, COUNT, INTERVALS, FAILURES}
use Rattle.buffer.specs.Segments.{part}
use Rattle.buffer.specs.Layout.{facts_of}
use Rattle.buffer.specs.Good.{good}
use Rattle.buffer.proofs.Goodness.{byte_low, good_shape, interval_count}
use Rattle.buffer.proofs.Segments.{part_at}
use Rattle.buffer.proofs.Sane.{good_sane}
use Rattle.buffer.proofs.Keep.{interval_range, wait_low}
use Rattle.buffer.proofs.Laid.{Laid, laid_failures, laid_end, failures_at}
use Rattle.backoff.specs.declared.Backoff.{Backoff}
use Rattle.backoff.specs.Backoffs.{later, loaded, stored, backed}

-- ---- What the parts make of a buffer that is laid out

-- and of its services: a back-off stored, a service that backs off
abbrev pub on_stored : ℕ → Backoff → Services → Services
on_stored i x v = record { failures = set v.failures i x.failures; ends = set v.ends i x.end; standing = v.standing; mood = v.mood }

abbrev pub on_backed : Bool → ℕ → ℕ → Services → Services
on_backed y i e v = record {
  failures = cond y (set v.failures i (one_more (get_or v.failures i 0))) v.failures;
  ends = cond y (set v.ends i e) v.ends;
  standing = v.standing;
  mood = v.mood;
}

module _ {b : List ℕ} {f : Facts} {rs : List (List ℕ)} (l : Laid b f rs) (i : ℕ) (h : i < 4) where
  pub laid_stored : (x : Backoff) → Laid (stored b i x) (with_services f (on_stored i x f.services)) rs
  laid_stored x = laid_end (laid_failures l i x.failures h) i x.end h

  pub laid_backed : (t n w : ℕ) → Laid (backed b t i n w) (with_services f (on_backed (eqb n 20) i (t + w) f.services)) rs
  unfolding backed
  laid_backed t n w = go (eqb n 20)
    where
      x : Backoff
      x = later (loaded b i) (t + w)

      go : (y : Bool) → Laid (cond y (stored b i x) b) (with_services f (on_backed y i (t + w) f.services)) rs
      go true = rw (← failures_at l i h) (laid_stored x)
      go false = l

-- ---- The wait

pub base_range : (b : List ℕ) → good b ≡ true → (n : ℕ)
    → (1 ≤ interval (facts_of b).mode.intervals (one_more n)) × (interval (facts_of b).mode.intervals (one_more n) ≤ 65535)
base_range b g n = interval_range (facts_of b) (good_sane b g) (one_more n) (omega arith)

-- where the interval of one failure more than n stands, the last being `last`
module _ (b : List ℕ) (g : good b ≡ true) where
  pub count_range : (1 ≤ get_or b COUNT 0) × (get_or b COUNT 0 ≤ 10)
  unfolding facts_of
  count_range = let q = interval_count b (good_shape b g) in (omega (arith, (good_sane b g).mode.some), omega (arith, (good_sane b g).mode.few))

  pub interval_next : (n : ℕ) {m : ℕ} → m ≡ min n (get_or b COUNT 0 - 1) → get_or b (INTERVALS + m) 0 ≡ interval (facts_of b).mode.intervals (one_more n)
  unfolding facts_of
  interval_next n {m} e =
      let l : List ℕ = part b INTERVALS (get_or b COUNT 0) in
      let i : min (min (n + 1) 255) (length l) - 1 ≡ m = omega (arith, e, interval_count b (good_shape b g), count_range.0, count_range.1) in
      rw i (sym (part_at b INTERVALS (get_or b COUNT 0) m (omega (arith, e, count_range.0))))

-- what it is drawn from fits
pub failures_low : (b : List ℕ) → good b ≡ true → (i : ℕ) → i < 4 → get_or b (FAILURES + i) 0 ≤ 255
unfolding facts_of
failures_low b g i h = (byte_low b FAILURES 4 (good_sane b g).services.failures i h)

-- the wait, by the places
pub waits : (b : List ℕ) (i : ℕ) → i < 4 → {r p x m : ℕ} → m ≡ get_or b QUOTIENT 0 * 2 ^ 32 + get_or b REMAINDER 0
    → r ≡ p + x % p → p ≡ interval (facts_of b).mode.intervals (one_more (get_or b (FAILURES + i) 0)) → x ≡ drawn m (get_or b (FAILURES + i) 0 + 1) → r ≡ wait (facts_of b) i
unfolding wait wait_for facts_of
waits b i h v e k d =
    let n = get_or b (FAILURES + i) 0 in
    let l = (facts_of b).mode.intervals in
    let capped : min (n + 1) 15 ≡ min (one_more n) 15 = omega arith in
    let same : n ≡ get_or (facts_of b).services.failures i 0 = sym (part_at b FAILURES 4 i h) in
    e ∙ (λ j. k j + d j % k j) ∙ (λ j. interval l (one_more n) + mixed (v j * 16 + capped j) % interval l (one_more n))
    ∙ ap (λ (n : ℕ). interval l (one_more n) + drawn (facts_of b).opening.imsi (one_more n) % interval l (one_more n)) same

-- the end of a wait fits a place
pub wait_fits : (b : List ℕ) → good b ≡ true → (t : ℕ) → t ≤ highest_time → (i : ℕ) {w : ℕ} → w ≡ wait (facts_of b) i → t + w < 4294967296
wait_fits b g t late i e = omega (arith, e, wait_low (facts_of b) i (good_sane b g))

pub end_fits : (b : List ℕ) → good b ≡ true → (t i n : ℕ) (a : Answer) → a ≡ failed (facts_of b) i n → t ≤ highest_time → a.number ≡ 20 → t + a.second < 4294967296
end_fits b g t i n a e late k =
    wait_fits b g t late i (ap (λ (x : Answer). x.second) e ∙ failed_wait (facts_of b) i n (rw (← e) (eq-eqb a.number 20 k)))
