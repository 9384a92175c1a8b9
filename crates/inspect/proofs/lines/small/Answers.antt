-- `inspect::lines::small` meets its contract. Assumes nothing.
use Prim.Native.Nat.{ℕ, ◌+◌, ◌≤◌}
use mathlib.Core.Path.{◌≡◌, ap, ◌∙◌}
use mathlib.Core.List.{List}
use lib.ListN.{length}
use native.Mathlib.Omega.{arith}
use Rattle.buffer.specs.Segments.{part}
use Rattle.buffer.specs.Layout.{facts_of}
use Rattle.buffer.specs.Good.{bytes, lines}
use Rattle.buffer.proofs.Tests.{both}
use Rattle.buffer.proofs.Segments.{spelled, spell}
use Rattle.inspect.proofs.lines.small.Goals as goal

pub returns : goal.returns
unfolding lines facts_of
returns c =
    let b : List ℕ = c.args.s.now in
    let numbers : (at n : ℕ) → at + n ≤ length b → bytes (part b at n) ≡ bytes (spelled b at n) = λ at n h. ap bytes (spell b at n h) in
    both
    (both
    (both (c.band.ensures ∙ numbers 20 6 (omega arith)) (c.band-2.ensures ∙ numbers 26 2 (omega arith)))
    (c.band-3.ensures ∙ numbers 28 3 (omega arith)))
    c.band-4.ensures
