-- `inspect::lines::headed` meets its contract. Assumes nothing.
use Prim.Native.Nat.{ℕ, ◌^◌}
use mathlib.Core.List.{List}
use lib.ListN.{get_or}
use borrow.Author.Tests.{lt-ltb}
use Rattle.buffer.specs.Layout.{facts_of}
use Rattle.buffer.specs.Good.{lines, times_good, imsi_good, flags_good}
use Rattle.inspect.proofs.lines.headed.Goals as goal

pub returns : goal.returns
unfolding lines times_good imsi_good flags_good facts_of
returns c =
    let b : List ℕ = c.args.s.now in
    rw (c.imsi-number.ensures, lt-ltb (get_or b 5 0) (2 ^ 32) (c.shared_slice_known-1.given 5).fits)
