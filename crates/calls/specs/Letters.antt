-- Document 01's letters: which timed call a letter and the numbers after it stand for. Assumes
-- nothing.
use Rattle.std.specs.Prelude.{cond, List, ℕ, eqb, get_or}
use Rattle.rules.specs.declared.Event.{Event}
use Rattle.rules.specs.declared.Event.TheVariants.{Ask as ask, Outcome as outcome, Dropped as dropped, Tick as tick}
use Rattle.rules.specs.declared.Outcome.TheVariants.{Granted as granted, Silent as silent, Rejected as rejected}

abbrev pub letter_q : ℕ
letter_q = 81

abbrev pub letter_g : ℕ
letter_g = 71

abbrev pub letter_s : ℕ
letter_s = 83

abbrev pub letter_j : ℕ
letter_j = 74

abbrev pub letter_d : ℕ
letter_d = 68

abbrev pub letter_t : ℕ
letter_t = 84

abbrev pub letter_a : ℕ
letter_a = 65

-- how many numbers follow a letter, the time first; 0 for a byte that begins no timed
-- call
unfoldable pub how_many : ℕ → ℕ
how_many x =
    cond (eqb x letter_q) 2
    (cond (eqb x letter_g) 2
    (cond (eqb x letter_s) 2
    (cond (eqb x letter_j) 5
    (cond (eqb x letter_d) 1
    (cond (eqb x letter_t) 1 0)))))

-- what happens, by the letter and the numbers after it
unfoldable pub event_of : ℕ → List ℕ → Event
event_of x n =
    cond (eqb x letter_q) (ask (get_or n 1 0))
    (cond (eqb x letter_g) (outcome (get_or n 1 0) granted)
    (cond (eqb x letter_s) (outcome (get_or n 1 0) silent)
    (cond (eqb x letter_j) (outcome (get_or n 1 0) (rejected (get_or n 2 0) (get_or n 3 0) (get_or n 4 0)))
    (cond (eqb x letter_d) dropped tick))))
