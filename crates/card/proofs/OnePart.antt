-- What is promised of the part that rules leaves one place and the same bytes; and files that are good as they stand. Assumes nothing.
use mathlib.Core.Path.{◌≡◌, refl, sym, ◌∙◌}
use mathlib.Core.Bool.{true}
use mathlib.Core.List.{List}
use Prim.Native.Nat.{ℕ}
use lib.ListN.{replicate}
use denote.Ref.{Bor}
use Rattle.card.specs.Card.{blank, file, parameter_file, rate_file, counter_file, rtc10, IsPart}

pub one_part : {long n : ℕ} {card own r r' : Bor (List ℕ)} → IsPart long n card own r → IsPart long n card own r' → (r.ref_ptr ≡ r'.ref_ptr) × (r.now ≡ r'.now)
one_part p q = (p.begins ∙ sym q.begins, p.holds ∙ sym q.holds)

pub rtc10_is_file : parameter_file rtc10 ≡ true
unfolding blank file
rtc10_is_file = refl

pub zero_rates_are_file : rate_file (replicate 6 0) ≡ true
unfolding blank file
zero_rates_are_file = refl

pub zero_counters_are_file : counter_file (replicate 32 0) ≡ true
unfolding blank file
zero_counters_are_file = refl
