-- The name of a new file beside another: the other's name with `.new` after it. Assumes nothing.
use Rattle.std.specs.Prelude.{ℕ, ◌+◌, ◌≡◌, Bool, cond, List, [], ◌∷◌, ◌++◌, leb, length, take, drop, Option, Some, None}

-- .new
abbrev pub ending : List ℕ
ending = 46 ∷ 110 ∷ 101 ∷ 119 ∷ []

-- a name of n bytes, with its ending, is within the room
unfoldable pub fits : List ℕ → ℕ → Bool
fits room n = leb (n + 4) (length room)

-- The name stands in the first n bytes of the room. Where its ending fits, it stands after them and
-- r is the length of the two; else it is `None`. Every other byte is as it was.
pub record Beside (before : List ℕ) (n : ℕ) (r : Option ℕ) (after : List ℕ) : Type 0 where
  pub long : r ≡ cond (fits before n) (Some (n + 4)) None
  pub bytes : after ≡ cond (fits before n) (take n before ++ ending ++ drop (n + 4) before) before
