-- What is promised of cutting the input into lines: what was printed, with what is still to be
-- printed, is what the whole prints. Assumes nothing.
use Rattle.std.specs.Prelude.{◌≡◌, Bool, true, false, List, [], ◌++◌, ℕ, take}
use Rattle.std.proofs.Math.Seq.{slice}
use Rattle.answering.specs.declared.Carry.{Carry}
use Rattle.answering.specs.declared.Left.{Left}
use Rattle.answering.specs.Through.{prints, leaves}

-- the bytes of the line that has begun
abbrev pub begun : List ℕ → Left → List ℕ
begun buf p = slice p.«start» p.place buf

-- the bytes of the output that wait to be written
abbrev pub waiting : List ℕ → Left → List ℕ
waiting out p = take p.«fill» out

-- what the rest of the input prints, and leaves, with the bytes that come after it
abbrev pub rest_prints : List ℕ → ℕ → Left → List ℕ → List ℕ → List ℕ
rest_prints buf end p b later = prints p.skip (begun buf p) (slice p.place end buf ++ later) b

abbrev pub rest_leaves : List ℕ → ℕ → Left → List ℕ → List ℕ → List ℕ
rest_leaves buf end p b later = leaves p.skip (begun buf p) (slice p.place end buf ++ later) b

-- from p, the buffer b and the output out to q, the buffer x and the output y, whatever comes later
pub record Cut (buf : List ℕ) (end : ℕ) (p : Left) (b out : List ℕ) (q : Left) (x y : List ℕ) : Type 0 where
  pub printed : (later : List ℕ) → waiting y q ++ rest_prints buf end q x later ≡ waiting out p ++ rest_prints buf end p b later
  pub left : (later : List ℕ) → rest_leaves buf end q x later ≡ rest_leaves buf end p b later

-- what is kept of the line that has begun: the first k bytes of y, with skip, stand for the line of
-- p in the input buf, whatever the buffer and whatever comes later
pub record Kept (buf : List ℕ) (p : Left) (skip : Bool) (k : ℕ) (y : List ℕ) : Type 0 where
  pub prints_on : (later b : List ℕ) → prints skip (take k y) later b ≡ prints p.skip (begun buf p) later b
  pub leaves_on : (later b : List ℕ) → leaves skip (take k y) later b ≡ leaves p.skip (begun buf p) later b

-- the whole input, after the first `held` bytes, from the buffer b to q and the buffer x: cut to
-- its end where all was written
pub record Answered (buf : List ℕ) (end : ℕ) (skip : Bool) (held : ℕ) (b : List ℕ) (q : Left) (x : List ℕ) : Type 0 where
  pub left : (later : List ℕ) → rest_leaves buf end q x later ≡ leaves skip (take held buf) (slice held end buf ++ later) b
  pub whole : q.sent ≡ true → q.place ≡ end

-- the bytes `read` came after the first `held` bytes of buf: from the buffer b to what is kept, in
-- y, and the buffer x
pub record Turned (skip : Bool) (held : ℕ) (buf read b : List ℕ) (r : Carry) (y x : List ℕ) : Type 0 where
  -- with more to come: whatever it is, all that is left is what the whole leaves
  pub goes_on : r.more ≡ true → (later : List ℕ) → leaves r.skip (take r.held y) later x ≡ leaves skip (take held buf) (read ++ later) b
  -- at the end of the input, where all was written
  pub ends : r.more ≡ false → r.sent ≡ true → x ≡ leaves skip (take held buf) read b

-- so of some bytes: nothing says which ones a read brings
abbrev pub SomeTurned : Bool → ℕ → (buf b : List ℕ) → Carry → (y x : List ℕ) → Type 0
SomeTurned skip held buf b r y x = (read : List ℕ) × Turned skip held buf read b r y x

-- the whole input, where all of it was answered and written: the buffer x is what some bytes leave
-- of the buffer b
abbrev pub Whole : Bool → (b x : List ℕ) → Type 0
Whole r b x = r ≡ true → (read : List ℕ) × (x ≡ leaves false [] read b)
