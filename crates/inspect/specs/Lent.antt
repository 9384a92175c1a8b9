-- A buffer that is lent on whole. Assumes nothing.
use Rattle.std.specs.Prelude.{ℕ, List, Option}
use Rattle.std.specs.Borrow.{LendsIf, Array, MutBor, Fml, u32}

-- s ends as what was last written to the whole r, and stays as it is where there is none
abbrev pub LendsWhole : MutBor (List ℕ) → Option (MutBor (List ℕ)) → Fml
LendsWhole s r = LendsIf (Array u32 0) (Array u32 0) s r (λ whole. whole) s.now
