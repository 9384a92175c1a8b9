-- A line's name, by the tests that the code makes, and the arguments behind it. Assumes nothing.
use Prim.Native.Nat.{ℕ, ◌+◌, ◌<◌, ◌^◌}
use mathlib.Core.Path.{◌≡◌, refl, sym, ap, subst, ◌∙◌}
use mathlib.Core.Bool.{Bool, true, false, cond}
use mathlib.Core.List.{List, []}
use native.Mathlib.Omega.{arith}
use lib.Seq.{take-append_seam}
use lib.ListN.{drop, length}
use Rattle.text.proofs.Choice.{cond_by}
use Rattle.at.specs.Lines.{starts, at_nfm, at_nfmci, flags, ints, ints_line, read_line}
use Rattle.at.specs.Lines.{word, name_of, arguments_of}
use Rattle.rules.specs.Calls.{Line, query, nfm, nfm_start, intervals, bad}
use Rattle.std.specs.Prelude.{Option, Some, None}
use Rattle.at.specs.Order.{line_of, order_of}
use Rattle.at.specs.declared.Order.{Order}
use Rattle.at.specs.declared.Name.{Name}
use Rattle.at.specs.declared.Name.TheVariants as N
use Rattle.at.proofs.LineLaws.{starts_in}

-- the name, by the two tests for it
abbrev first : Bool → Bool → Option Name
first a b = cond a (Some N.Flags) (cond b (Some N.Intervals) None)

-- what a name that a line may begin with says of it
abbrev Named : List ℕ → Option Name → Type 0
Named l None = Unit {0}
Named l (Some n) = starts (word n) l ≡ true

-- what a line says, by its name: a line without one is bad
abbrev pub by_name : Option Name → List ℕ → Line
by_name None l = bad
by_name (Some n) l = arguments_of n (drop (length (word n)) l)

module _ (l : List ℕ) where
  -- the name that a line begins with stands there
  named : Named l (name_of l)
  unfolding name_of
  named = cond_by (Named l) (starts at_nfm l) (λ e. e) (λ _. cond_by (Named l) (starts at_nfmci l) (λ e. e) (λ _. tt))

  -- a line says what the arguments behind its name say
  pub in_steps : by_name (name_of l) l ≡ read_line l
  unfolding name_of read_line
  in_steps = by_tests (starts at_nfm l) (starts at_nfmci l)
    where
      by_tests : (a b : Bool) → by_name (first a b) l ≡ cond a (flags (drop 7 l)) (cond b (ints_line (ints 10 (drop 9 l) 1 [])) bad)
      by_tests true b = refl
      by_tests false true = refl
      by_tests false false = refl

  pub read_none : name_of l ≡ None → read_line l ≡ bad
  read_none e = sym (ap (λ (n : Option Name). by_name n l) (sym e) ∙ in_steps)

  pub read_named : (n : Name) → name_of l ≡ Some n → arguments_of n (drop (length (word n)) l) ≡ read_line l
  read_named n e = ap (λ (m : Option Name). by_name m l) (sym e) ∙ in_steps

-- the place behind a name that stands at a place is a number of the machine's, as that place is
pub behind_fits : (l : List ℕ) (i : ℕ) (n : Name) → name_of (drop i l) ≡ Some n → length l < 2 ^ 64
    → i < 2 ^ 64 → i + length (word n) < 2 ^ 64
behind_fits l i n e h k =
    let long = starts_in (word n) l i (subst (Named (drop i l)) e (named (drop i l))) in
    omega arith

-- what a caller of `read` learns of the line, once it has matched the order
pub told : (o : Option Order) (l : Line) → o ≡ order_of l → l ≡ line_of o
told o l e = whole l ∙ ap line_of (sym e)
  where
    whole : (l : Line) → l ≡ line_of (order_of l)
    whole query = refl
    whole (nfm a) = refl
    whole (nfm_start a s) = refl
    whole (intervals xs) = ap intervals (sym (take-append_seam xs _))
    whole bad = refl
