-- What the trace program knows of its buffer. Assumes nothing.
use Rattle.std.specs.Prelude.{◌≡◌, Bool, true, List, ℕ}
use Rattle.buffer.specs.Good.{good}

-- where the flag is set, the buffer is good
abbrev pub Known : Bool → List ℕ → Type 0
Known k b = k ≡ true → good b ≡ true
