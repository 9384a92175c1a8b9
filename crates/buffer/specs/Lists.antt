-- The five lists of permit times in the buffer. Assumes nothing.
use Rattle.std.specs.Prelude.{◌≡◌, List, ℕ, ◌+◌, ◌*◌, ◌<◌, min, length, get_or, set}
use Rattle.permits.specs.Permits.{Holds, appended}
use Rattle.buffer.specs.Places.{SIZE, LENGTHS, LISTS}
use Rattle.buffer.specs.Segments.{part, paste}

-- list k stands in b
pub record Listed (b : List ℕ) (k : ℕ) : Type 0 where
  pub long : length b ≡ SIZE
  pub five : k < 5
  pub holds : Holds (part b (LISTS + 255 * k) 255) (get_or b (LENGTHS + k) 0)

-- a buffer after a permit at t on list k: the list's places and its length, and no other place
unfoldable pub permitted : List ℕ → ℕ → ℕ → List ℕ
permitted b k t =
    let n = get_or b (LENGTHS + k) 0 in
    set (paste b (LISTS + 255 * k) (appended (part b (LISTS + 255 * k) 255) n t)) (LENGTHS + k) (min (n + 1) 255)
