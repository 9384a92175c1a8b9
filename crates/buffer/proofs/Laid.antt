-- A buffer that lays out known facts and lists: what each place of it holds, and what each store makes of it. Assumes nothing.
use mathlib.Core.Path.{◌≡◌, refl, sym, ap, ◌∙◌}
use mathlib.Core.Bool.{true}
use mathlib.Core.List.{List, [], ◌∷◌, ◌++◌}
use Prim.Native.Nat.{ℕ, ◌+◌, ◌≤◌, ◌<◌}
use native.Mathlib.Omega.{arith}
use lib.Dec.{lit<}
use lib.ListN.{length, get_or, set, length-set}
use Rattle.rules.specs.Rules.{newest}
use Rattle.rules.specs.State.{Facts, with_last, with_mode, with_counters, with_services, with_due, idle}
use Rattle.buffer.specs.Places.{LAST, NFM, START, COUNT, INTERVALS, FAILURES, ENDS, STANDING, MOOD, COUNTERS, DUE}
use Rattle.buffer.specs.Segments.{concat, pad, paste}
use Rattle.buffer.specs.Layout.{widths, segments, spread, rows, facts_of, view}
use Rattle.buffer.specs.Good.{Shape, good}
use Rattle.buffer.specs.Lists.{Listed, permitted}
use Rattle.buffer.proofs.Laying.{Shaped, get, put, sizes, length_pad, paste_whole}
use Rattle.buffer.proofs.Segments.{paste_seg, width_set}
use Rattle.buffer.proofs.Goodness.{shape_lay, shaped, lay_view, good_shape}
use Rattle.buffer.proofs.Listing.{shaped_permit, permit_row, row_listed}

-- facts with the numbers of the services replaced
abbrev pub with_numbers : Facts → (failures ends standing : List ℕ) → (mood : ℕ) → Facts
with_numbers f a b c m = with_services f (record { failures = a; ends = b; standing = c; mood = m })

-- four stores of 0
pub all_four : (l : List ℕ) → length l ≡ 4 → set (set (set (set l 0 0) 1 0) 2 0) 3 0 ≡ idle
all_four (a ∷ b ∷ c ∷ d ∷ []) h = refl
all_four [] h = absurd (omega arith)
all_four (a ∷ []) h = absurd (omega arith)
all_four (a ∷ b ∷ []) h = absurd (omega arith)
all_four (a ∷ b ∷ c ∷ []) h = absurd (omega arith)
all_four (a ∷ b ∷ c ∷ d ∷ x ∷ l) h = absurd (omega arith)

pub record Laid (b : List ℕ) (f : Facts) (rs : List (List ℕ)) : Type 0 where
  pub shaped : Shaped f rs
  pub is : b ≡ spread f rs

pub laid_shaped : (b : List ℕ) → Shape b → Laid b (facts_of b) (rows (view b).lists)
laid_shaped b s = record { shaped = shaped b s; is = sym (lay_view b s) }

pub laid_good : (b : List ℕ) → good b ≡ true → Laid b (facts_of b) (rows (view b).lists)
laid_good b h = laid_shaped b (good_shape b h)

module _ {b : List ℕ} {f : Facts} {rs : List (List ℕ)} (l : Laid b f rs) where
  pub laid_as : {x : List ℕ} → x ≡ b → Laid x f rs
  laid_as e = record { shaped = l.shaped; is = e ∙ l.is }

  pub laid_shape : Shape b
  laid_shape = rw l.is (shape_lay f rs l.shaped)

  pub laid_listed : (k : ℕ) → k < 5 → Listed b k
  laid_listed k h = row_listed b laid_shape k h

  -- reads
  pub counter_at : (i : ℕ) → i < 6 → get_or b (COUNTERS + i) 0 ≡ get_or f.counters i 0
  unfolding segments
  counter_at i h = rw l.is (get f rs l.shaped 14 i h)

  pub failures_at : (i : ℕ) → i < 4 → get_or b (FAILURES + i) 0 ≡ get_or f.services.failures i 0
  unfolding segments
  failures_at i h = rw l.is (get f rs l.shaped 10 i h)

  -- facts of the same shape
  same_shape : (g : Facts) → g.mode.intervals ≡ f.mode.intervals → length g.services.failures ≡ length f.services.failures
      → length g.services.ends ≡ length f.services.ends → length g.services.standing ≡ length f.services.standing
      → length g.counters ≡ length f.counters → Shaped g rs
  same_shape g i a e s c = record {
    intervals = rw i l.shaped.intervals;
    failures = a ∙ l.shaped.failures;
    ends = e ∙ l.shaped.ends;
    standing = s ∙ l.shaped.standing;
    counters = c ∙ l.shaped.counters;
    five = l.shaped.five;
    short = l.shaped.short;
  }

  -- stores
  pub laid_last : (t : ℕ) → Laid (set b LAST t) (with_last f t) rs
  unfolding spread segments
  laid_last t = record { shaped = same_shape _ refl refl refl refl refl; is = rw l.is (put f rs l.shaped 2 1 t (lit< tt)) }

  pub laid_nfm : (a : ℕ) → Laid (set b NFM a) (with_mode f (record { nfm = a; start = f.mode.start; intervals = f.mode.intervals })) rs
  unfolding spread segments
  laid_nfm a = record { shaped = same_shape _ refl refl refl refl refl; is = rw l.is (put f rs l.shaped 4 0 a (lit< tt)) }

  pub laid_start : (a : ℕ) → Laid (set b START a) (with_mode f (record { nfm = f.mode.nfm; start = a; intervals = f.mode.intervals })) rs
  unfolding spread segments
  laid_start a = record { shaped = same_shape _ refl refl refl refl refl; is = rw l.is (put f rs l.shaped 4 1 a (lit< tt)) }

  pub laid_mood : (a : ℕ) → Laid (set b MOOD a) (with_numbers f f.services.failures f.services.ends f.services.standing a) rs
  unfolding spread segments
  laid_mood a = record { shaped = same_shape _ refl refl refl refl refl; is = rw l.is (put f rs l.shaped 13 0 a (lit< tt)) }

  pub laid_failures : (i a : ℕ) → i < 4
      → Laid (set b (FAILURES + i) a) (with_numbers f (set f.services.failures i a) f.services.ends f.services.standing f.services.mood) rs
  unfolding spread segments
  laid_failures i a h = record { shaped = same_shape _ refl (length-set f.services.failures i a) refl refl refl; is = rw l.is (put f rs l.shaped 10 i a h) }

  pub laid_end : (i a : ℕ) → i < 4
      → Laid (set b (ENDS + i) a) (with_numbers f f.services.failures (set f.services.ends i a) f.services.standing f.services.mood) rs
  unfolding spread segments
  laid_end i a h = record { shaped = same_shape _ refl refl (length-set f.services.ends i a) refl refl; is = rw l.is (put f rs l.shaped 11 i a h) }

  pub laid_standing : (i a : ℕ) → i < 4
      → Laid (set b (STANDING + i) a) (with_numbers f f.services.failures f.services.ends (set f.services.standing i a) f.services.mood) rs
  unfolding spread segments
  laid_standing i a h = record { shaped = same_shape _ refl refl refl (length-set f.services.standing i a) refl; is = rw l.is (put f rs l.shaped 12 i a h) }

  pub laid_counter : (i a : ℕ) → i < 6 → Laid (set b (COUNTERS + i) a) (with_counters f (set f.counters i a)) rs
  unfolding spread segments
  laid_counter i a h = record { shaped = same_shape _ refl refl refl refl (length-set f.counters i a); is = rw l.is (put f rs l.shaped 14 i a h) }

  pub laid_due : (a : ℕ) → Laid (set b DUE a) (with_due f a) rs
  unfolding spread segments
  laid_due a = record { shaped = same_shape _ refl refl refl refl refl; is = rw l.is (put f rs l.shaped 17 0 a (lit< tt)) }

  -- other intervals, and their number
  pub laid_intervals : (x : List ℕ) → length x ≤ 10
      → Laid (paste (set b COUNT (length x)) INTERVALS (pad 10 x)) (with_mode f (record { nfm = f.mode.nfm; start = f.mode.start; intervals = x })) rs
  unfolding spread segments
  laid_intervals x h =
      let s = l.shaped in
      let long = length_pad 10 x h in
      let segs = set (segments f rs) 5 (length x ∷ []) in
      record {
        shaped = record { intervals = h; failures = s.failures; ends = s.ends; standing = s.standing; counters = s.counters; five = s.five; short = s.short };
        is =
            rw l.is
            (ap (λ (y : List ℕ). paste y INTERVALS (pad 10 x)) (put f rs s 5 0 (length x) (lit< tt))
            ∙ paste_seg segs widths (width_set (segments f rs) widths (sizes f rs s) 5 (length x ∷ []) refl) 6 0 (pad 10 x) (omega (arith, long)) (lit< tt)
            ∙ ap (λ (y : List ℕ). concat (set segs 6 y)) (paste_whole (pad 10 f.mode.intervals) (pad 10 x) (omega (arith, long, length_pad 10 f.mode.intervals s.intervals))));
      }

  -- a permit on list k
  pub laid_permit : (k t : ℕ) → k < 5 → Laid (permitted b k t) f (set rs k (newest (get_or rs k [] ++ (t ∷ []))))
  laid_permit k t h = record { shaped = shaped_permit f rs l.shaped k h t; is = rw l.is (permit_row f rs l.shaped k h t) }
