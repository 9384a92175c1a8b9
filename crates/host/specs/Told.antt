-- What the programs tell of a word that they were not given, and of what failed. Assumes nothing.
use Rattle.std.specs.Prelude.{ℕ, ℤ, pos, List, [], ◌∷◌, ◌++◌, Option}
use Rattle.std.specs.Io.KnownBytes.{Appends}
use Rattle.std.specs.declared.env.FillError.{FillError}
use Rattle.std.specs.declared.env.FillError.TheVariants.{NotPresent, TooLong}

-- the number of the system's error for a word that was not given: 22, EINVAL, where it is missing,
-- and 36, ENAMETOOLONG, where it is longer than the room
abbrev pub error_of : FillError → ℤ
error_of NotPresent = pos 22
error_of TooLong = pos 36

-- a line: what failed, a colon, a space, why, and LF
abbrev pub failure : List ℕ → List ℕ → List ℕ
failure what words = what ++ (58 ∷ 32 ∷ (words ++ (10 ∷ [])))

-- a writer's known bytes grow by such a line, in words that std does not say
abbrev pub Tells : Option (List ℕ) → Option (List ℕ) → List ℕ → Type 0
Tells old new what = (words : List ℕ) × Appends old new (failure what words)
