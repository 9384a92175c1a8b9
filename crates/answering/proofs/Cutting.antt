-- The input cut into lines, one byte after the other. Assumes nothing.
use mathlib.Core.Path.{◌≡◌, refl, sym, ap, ◌∙◌}
use mathlib.Core.Bool.{Bool, true, false, cond, not, ◌&&◌}
use mathlib.Core.List.{List, [], ◌∷◌, ◌++◌, append_assoc}
use mathlib.Core.Logic.{◌≢◌}
use Prim.Native.Nat.{ℕ, zero, suc, ◌+◌, ◌-◌, ◌≤◌, ◌<◌}
use native.Mathlib.Omega.{arith}
use native.Mathlib.Numerals.{add-one}
use lib.ListN.{length, get_or, take, drop, length-take, length-drop, length-append}
use Rattle.std.specs.List.{copy_within}
use lib.Seq.{take_at, take-nil, slice, slice_empty, slice-cons, take-suc, drop-append-le, length-take-le, take-append-add, take-append_seam}
use lib.Dec.{eqb}
use borrow.Author.Tests.{eq-eqb, ne_eqb, le-leb}
use Rattle.buffer.specs.Segments.{paste}
use Rattle.lines.specs.Trace.{longest}
use Rattle.rows.specs.Rows.{ended}
use Rattle.lines.proofs.Doing.{said_long}
use Rattle.lines.specs.Line.{print_of, room_for, LineSays}
use Rattle.answering.specs.declared.Left.{Left}
use Rattle.answering.specs.Through.{line_prints, line_leaves, prints, leaves}
use Rattle.answering.specs.Cut.{begun, Cut, Kept}

-- ---- A part of the output, written at its front

written : (out part new rest : List ℕ) (fill n : ℕ) → fill ≤ length out → n ≡ length new → take (fill + n) (take fill out ++ (paste part 0 new ++ rest)) ≡ take fill out ++ new
unfolding paste
written out part new rest fill n h e =
    let a : fill ≡ length (take fill out) = sym (length-take-le fill out h) in
    ap (λ (k : ℕ). take (k + n) (take fill out ++ (paste part 0 new ++ rest))) a
    ∙ (take-append-add (take fill out) (paste part 0 new ++ rest) n
    ∙ ap (λ (l : List ℕ). take fill out ++ l) (ap (λ (k : ℕ). take k (paste part 0 new ++ rest)) e ∙ (ap (take (length new)) (append_assoc new (drop (0 + length new) part) rest) ∙ take-append_seam new (drop (0 + length new) part ++ rest))))

-- the rest of the output, as it is lent on
abbrev pub room_of : List ℕ → ℕ → List ℕ
room_of out fill = take (length out - fill) (drop fill out)

pub room_left : (out : List ℕ) (fill : ℕ) → fill + 22 ≤ length out → 22 ≤ length (room_of out fill)
room_left out fill h = simp (length-take, length-drop) (omega arith)

-- the same of what a line prints, once it is written there
pub told_line : (out last new : List ℕ) (fill n : ℕ) (skip : Bool) (line b : List ℕ) → fill ≤ length out → last ≡ paste (room_of out fill) 0 new → n ≡ length new → line_prints skip line b ≡ new
    → take (fill + n) (take fill out ++ (last ++ drop (length out - fill) (drop fill out))) ≡ take fill out ++ line_prints skip line b
told_line out last new fill n skip line b h e k q =
    ap (λ (l : List ℕ). take (fill + n) (take fill out ++ (l ++ drop (length out - fill) (drop fill out)))) e
    ∙ (written out (room_of out fill) new (drop (length out - fill) (drop fill out)) fill n h k ∙ ap (λ (l : List ℕ). take fill out ++ l) (sym q))

-- ---- What answering a line says, in a room that is large enough

module _ {b line room : List ℕ} {r : ℕ} {x y : List ℕ} (h : room_for ≤ length room) (s : LineSays b line room r x y) where
  pub line_counted : r ≡ length (print_of b line)
  line_counted = s.counted ∙ rw (le-leb room_for (length room) h)

  pub line_written : y ≡ paste room 0 (print_of b line)
  line_written = s.written ∙ rw (le-leb room_for (length room) h)

-- ---- A byte

-- a part of the input, as it is lent on
pub part_slice : (f t : ℕ) (l : List ℕ) → take (t - f) (drop f l) ≡ slice f t l
part_slice zero t l = ap (λ (k : ℕ). take k l) (let e : t - 0 ≡ t = omega arith in e)
part_slice (suc f) zero l = ap (λ (k : ℕ). take k (drop (suc f) l)) (let e : 0 - suc f ≡ 0 = omega arith in e)
part_slice (suc f) (suc t) [] = take-nil (suc t - suc f)
part_slice (suc f) (suc t) (x ∷ l) = ap (λ (k : ℕ). take k (drop f l)) (let e : suc t - suc f ≡ t - f = omega arith in e) ∙ part_slice f t l

-- a part that is longer by a byte
pub slice_more : (f t : ℕ) (l : List ℕ) → f ≤ t → t < length l → slice f (t + 1) l ≡ slice f t l ++ (get_or l t 0 ∷ [])
slice_more f t l h k = rw (add-one, take-suc l t 0 k) (drop-append-le f (take t l) (get_or l t 0 ∷ []) (omega (arith, length-take-le t l (omega arith))))

module _ (buf : List ℕ) (end : ℕ) (p : Left) (b out : List ℕ) (h : p.«start» ≤ p.place) (k : p.place < end) (l : end ≤ length buf) where
  abbrev byte : ℕ
  byte = get_or buf p.place 0

  abbrev later : List ℕ
  later = slice (suc p.place) end buf

  -- no LF: the line goes on
  pub goes_on : byte ≢ 10 → (known sent : Bool) → Cut buf end p b out (record { «start» = p.«start»; place = p.place + 1; skip = p.skip; «fill» = p.«fill»; known = known; sent = sent }) b out
  unfolding prints leaves
  goes_on n known sent =
      let e = slice-cons p.place end buf 0 k l in
      let m = slice_more p.«start» p.place buf h (omega arith) in
      record { printed = λ later. rw (e, ne_eqb byte 10 n, m, add-one); left = λ later. rw (e, ne_eqb byte 10 n, m, add-one) }

  -- LF: the line is answered
  pub ends_line : byte ≡ 10 → (fill : ℕ) (known sent : Bool) (line x y : List ℕ) → line ≡ begun buf p
      → take fill y ≡ take p.«fill» out ++ line_prints p.skip line b → x ≡ line_leaves p.skip line b
      → Cut buf end p b out (record { «start» = p.place + 1; place = p.place + 1; skip = false; «fill» = fill; known = known; sent = sent }) x y
  unfolding prints leaves
  ends_line n fill known sent line x y g w d =
      let e = slice-cons p.place end buf 0 k l in
      let z = slice_empty (p.place + 1) buf in
      record {
        printed = λ later. rw (e, eq-eqb byte 10 n, z, w, d, g, add-one) (append_assoc (take p.«fill» out) (line_prints p.skip (begun buf p) b) _);
        left = λ later. rw (e, eq-eqb byte 10 n, z, d, g, add-one);
      }

-- nothing cut
pub cut_none : {buf : List ℕ} {end : ℕ} {p : Left} {b out : List ℕ} → Cut buf end p b out p b out
cut_none = record { printed = λ later. refl; left = λ later. refl }

-- one cut after another
pub cut_on : {buf : List ℕ} {end : ℕ} {p q r : Left} {b out x y x' y' : List ℕ} → Cut buf end p b out q x y → Cut buf end q x y r x' y' → Cut buf end p b out r x' y'
cut_on s t = record { printed = λ later. t.printed later ∙ s.printed later; left = λ later. t.left later ∙ s.left later }

-- ---- What is kept of a line that has begun

-- its bytes, copied to the front
pub moved : (buf : List ℕ) (f t : ℕ) → f ≤ t → t ≤ length buf → take (t - f) (copy_within buf f t 0) ≡ slice f t buf
moved buf f t h k =
    let part = take (t - f) (drop f buf) in
    take_at part (drop (0 + (t - f)) buf) (t - f) (length-take-le (t - f) (drop f buf) (omega (arith, length-drop f buf))) ∙ part_slice f t buf

-- the bytes of a line that is passed over do not count
skip_prints : (later u v b : List ℕ) → prints true u later b ≡ prints true v later b
unfolding prints
skip_prints [] u v b = never (ended u) ∙ sym (never (ended v))
  where
    never : (x : Bool) → cond (x && false) [] (line_prints true u b) ≡ line_prints true u b
    never true = refl
    never false = refl
skip_prints (x ∷ l) u v b = ap (λ (r : List ℕ). cond (eqb x 10) (line_prints true u b ++ prints false [] l b) r) (skip_prints l (u ++ (x ∷ [])) (v ++ (x ∷ [])) b)

skip_leaves : (later u v b : List ℕ) → leaves true u later b ≡ leaves true v later b
unfolding leaves
skip_leaves [] u v b = never (ended u) ∙ sym (never (ended v))
  where
    never : (x : Bool) → cond (x && false) b (line_leaves true u b) ≡ b
    never true = refl
    never false = refl
skip_leaves (x ∷ l) u v b = ap (λ (r : List ℕ). cond (eqb x 10) (leaves false [] l b) r) (skip_leaves l (u ++ (x ∷ [])) (v ++ (x ∷ [])) b)

-- a line of over 256 bytes may be passed over: it is ERR whatever follows in it
module _ (line b : List ℕ) (h : longest < length line) where
  long_prints : line_prints true [] b ≡ line_prints false line b
  unfolding print_of
  long_prints = rw (said_long line h)

  long_leaves : line_leaves true [] b ≡ line_leaves false line b
  long_leaves = rw (said_long line h)

begun_long : (line : List ℕ) → longest < length line → ended line ≡ false
unfolding ended
begun_long [] h = absurd (omega arith)
begun_long (x ∷ l) h = refl

over_prints : (later line b : List ℕ) → longest < length line → prints true [] later b ≡ prints false line later b
unfolding prints ended
over_prints [] line b h = rw (begun_long line h) (long_prints line b h)
over_prints (x ∷ l) line b h =
    let on : prints true (x ∷ []) l b ≡ prints false (line ++ (x ∷ [])) l b = skip_prints l (x ∷ []) [] b ∙ over_prints l (line ++ (x ∷ [])) b (simp length-append (omega arith)) in
    λ i. cond (eqb x 10) (long_prints line b h i ++ prints false [] l (long_leaves line b h i)) (on i)

over_leaves : (later line b : List ℕ) → longest < length line → leaves true [] later b ≡ leaves false line later b
unfolding leaves ended
over_leaves [] line b h = rw (begun_long line h) (long_leaves line b h)
over_leaves (x ∷ l) line b h =
    let on : leaves true (x ∷ []) l b ≡ leaves false (line ++ (x ∷ [])) l b = skip_leaves l (x ∷ []) [] b ∙ over_leaves l (line ++ (x ∷ [])) b (simp length-append (omega arith)) in
    λ i. cond (eqb x 10) (leaves false [] l (long_leaves line b h i)) (on i)

module _ (buf : List ℕ) (p : Left) (y : List ℕ) where
  pub kept_skipped : p.skip ≡ true → Kept buf p true 0 y
  kept_skipped e = record { prints_on = λ later b. rw e (skip_prints later [] (begun buf p) b); leaves_on = λ later b. rw e (skip_leaves later [] (begun buf p) b) }

  pub kept_over : p.skip ≡ false → longest < length (begun buf p) → Kept buf p true 0 y
  kept_over e h = record { prints_on = λ later b. rw e (over_prints later (begun buf p) b h); leaves_on = λ later b. rw e (over_leaves later (begun buf p) b h) }

  pub kept_line : p.skip ≡ false → (k : ℕ) → take k y ≡ begun buf p → Kept buf p false k y
  kept_line e k h = record { prints_on = λ later b. rw (e, h); leaves_on = λ later b. rw (e, h) }

-- no line has begun just where none of its bytes is held
pub ended_none : (k : ℕ) (l : List ℕ) → k ≤ length l → ended (take k l) ≡ eqb k 0
unfolding ended
ended_none zero l h = refl
ended_none (suc k) [] h = absurd (omega arith)
ended_none (suc k) (x ∷ l) h = sym (ne_eqb (suc k) 0 (λ e. omega arith))

-- the end of the input: no line has begun, or one has
module _ (skip : Bool) (k : ℕ) (buf b : List ℕ) (h : k ≤ length buf) where
  pub last_none : (eqb k 0 && not skip) ≡ true → (prints skip (take k buf) [] b ≡ []) × (leaves skip (take k buf) [] b ≡ b)
  unfolding prints leaves
  last_none e = (rw (ended_none k buf h, e), rw (ended_none k buf h, e))

  pub last_line : (eqb k 0 && not skip) ≡ false → (prints skip (take k buf) [] b ≡ line_prints skip (take k buf) b) × (leaves skip (take k buf) [] b ≡ line_leaves skip (take k buf) b)
  unfolding prints leaves
  last_line e = (rw (ended_none k buf h, e), rw (ended_none k buf h, e))
