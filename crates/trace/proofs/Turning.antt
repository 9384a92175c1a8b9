-- One read after the other: what is kept, with what is read next, is what the whole leaves. Assumes
-- nothing.
use mathlib.Core.Path.{◌≡◌, sym, ap, ◌∙◌}
use mathlib.Core.Bool.{Bool, true, false, false≢true}
use mathlib.Core.List.{List, [], ◌++◌, append_assoc}
use Prim.Native.Nat.{ℕ, ◌+◌, ◌≤◌}
use native.Mathlib.Omega.{arith}
use lib.ListN.{length, take}
use lib.Seq.{slice, slice_empty, take_at, length-take-le}
use Rattle.answering.specs.declared.Carry.{Carry}
use Rattle.answering.specs.declared.Left.{Left}
use Rattle.answering.specs.Through.{leaves}
use Rattle.answering.specs.Cut.{begun, Kept, Answered, Turned, SomeTurned}

-- bytes are read after those that are held
pub held_stay : (k : ℕ) (l m : List ℕ) → k ≤ length l → take k (take k l ++ m) ≡ take k l
held_stay k l m h = take_at (take k l) m k (length-take-le k l h)

-- nothing came: the end of the input
pub turn_ends : (skip : Bool) (held n : ℕ) (buf b x : List ℕ) → n ≡ 0 → x ≡ leaves skip (take held buf) [] b → (r : Carry) (y : List ℕ) → r.more ≡ false
    → Turned skip held buf (slice held (held + n) buf) b r y x
turn_ends skip held n buf b x z e r y m = record { goes_on = λ k. absurd (false≢true (sym m ∙ k)); ends = λ k s. e ∙ ap (λ (l : List ℕ). leaves skip (take held buf) l b) (sym none) }
  where
    none : slice held (held + n) buf ≡ []
    none = ap (λ (i : ℕ). slice held i buf) (let h : held + n ≡ held = omega arith in h) ∙ slice_empty held buf

-- bytes came, and their lines were answered
module _ (skip : Bool) (held end : ℕ) (buf b x : List ℕ) (q : Left) (a : Answered buf end skip held b q x) where
  pub turn_goes : (r : Carry) (y : List ℕ) → r.more ≡ q.sent → r.sent ≡ q.sent → Kept buf q r.skip r.held y → Turned skip held buf (slice held end buf) b r y x
  turn_goes r y m s k = record {
    goes_on = λ n later.
        k.leaves_on later x
        ∙ (ap (λ (l : List ℕ). leaves q.skip (begun buf q) (l ++ later) x) (sym (none (sym m ∙ n))) ∙ a.left later);
    ends = λ n f. absurd (false≢true (sym n ∙ (m ∙ (sym s ∙ f))));
  }
    where
      none : q.sent ≡ true → slice q.place end buf ≡ []
      none e = ap (λ (i : ℕ). slice i end buf) (a.whole e) ∙ slice_empty end buf

-- ---- Turns, one after the other

-- the bytes that were held before the read
pub turned_from : {skip : Bool} {held : ℕ} {buf new read b y x : List ℕ} {r : Carry} → take held new ≡ take held buf → Turned skip held new read b r y x → Turned skip held buf read b r y x
turned_from {skip} {read = read} {b} same t = record {
  goes_on = λ n later. t.goes_on n later ∙ ap (λ (l : List ℕ). leaves skip l (read ++ later) b) same;
  ends = λ n s. t.ends n s ∙ ap (λ (l : List ℕ). leaves skip l read b) same;
}

pub turned_none : {b y : List ℕ} {r : Carry} → r.skip ≡ false → r.held ≡ 0 → r.more ≡ true → SomeTurned false 0 [] b r y b
turned_none s h m = ([], record { goes_on = λ e later. rw (s, h); ends = λ e f. absurd (false≢true (sym e ∙ m)) })

pub turned_on : {skip : Bool} {held : ℕ} {buf b y x y' x' : List ℕ} {c r : Carry} → SomeTurned skip held buf b c y x → c.more ≡ true → SomeTurned c.skip c.held y x r y' x'
    → SomeTurned skip held buf b r y' x'
turned_on {skip} {held} {buf} {b} s m t = (
  s.0 ++ t.0,
  record {
    goes_on = λ e later. t.1.goes_on e later ∙ (s.1.goes_on m (t.0 ++ later) ∙ ap (λ (l : List ℕ). leaves skip (take held buf) l b) (sym (append_assoc s.0 t.0 later)));
    ends = λ e f. t.1.ends e f ∙ s.1.goes_on m t.0;
  },
)
