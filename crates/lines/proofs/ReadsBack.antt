-- A printed answer reads back as the same answer. Assumes nothing.
use mathlib.Core.Path.{◌≡◌, refl}
use mathlib.Core.List.{[], ◌∷◌, ◌++◌}
use native.Mathlib.Omega.{arith}
use Rattle.rules.specs.declared.Answer.{Answer}
use Rattle.text.specs.Number.{got, num, digit_of}
use Rattle.text.specs.Printed.{print_num}
use Rattle.text.proofs.Printed.{below, num_print}
use Rattle.lines.specs.Trace.{highest}
use Rattle.rows.specs.Rows.{space, begins, ended, field}
use Rattle.std.specs.Prelude.{Option, Some, None}
use Rattle.lines.specs.Line.{printed, printed_two, printed_wrong, Fits, read_answer, last_of}

module _ (a : Answer) (h : Fits a) where
  first : num highest (printed_two a) ≡ got a.number (space ∷ (print_num a.second ++ (10 ∷ [])))
  first = num_print highest a.number (space ∷ (print_num a.second ++ (10 ∷ []))) (omega (arith, h.0)) h.0 (below space (print_num a.second ++ (10 ∷ [])) (omega arith))

  second : field highest (space ∷ (print_num a.second ++ (10 ∷ []))) ≡ got a.second (10 ∷ [])
  unfolding field begins
  second = num_print highest a.second (10 ∷ []) (omega (arith, h.1)) h.1 (below 10 [] (omega arith))

  last : last_of a.number a.second (10 ∷ []) ≡ Some a
  unfolding begins ended
  last = refl

  two_back : read_answer (printed_two a) ≡ Some a
  unfolding read_answer
  two_back = rw (first, second) last

wrong_back : read_answer printed_wrong ≡ None
unfolding read_answer num digit_of
wrong_back = refl

-- every answer whose numbers have 32 bits, as those of the calls do, and ERR too
abbrev FitsIn : Option Answer → Type 0
FitsIn (Some a) = Fits a
FitsIn None = Unit {0}

pub reads_back : (r : Option Answer) → FitsIn r → read_answer (printed r) ≡ r
reads_back (Some a) h = two_back a h
reads_back None h = wrong_back
