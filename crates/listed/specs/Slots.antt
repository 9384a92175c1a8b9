-- What the program prints of an area, slot by slot: the lines of its records, and of what is no
-- record a note. Assumes nothing.
use Rattle.std.specs.Prelude.{Bool, cond, ◌&&◌, not, List, [], ◌∷◌, ◌++◌, ℕ, zero, suc, ◌+◌, ◌*◌, take, drop}
use Rattle.std.specs.Prelude.{Option, Some, None}
use Rattle.text.specs.Printed.{print_num}
use Rattle.journal.specs.Area.{SLOTS, slot, begun, closed, erased}
use Rattle.listing.specs.Listing.{line_in}
use Rattle.listed.specs.declared.Slot.{Slot}
use Rattle.listed.specs.declared.Slot.TheVariants as S

-- ---- A slot

-- 128 bytes of 255; a torn record; the line of a whole one; or none of these
pub data Held : Type 0 where
  blank : Held
  torn : Held
  line : List ℕ → Held
  bad : Held

-- its first byte is not 255, its last is not 0, and every byte behind the slot is 255
unfoldable pub torn_at : List ℕ → ℕ → Bool
torn_at a i = begun (slot a i) && (not (closed (slot a i)) && erased (drop (i * 128 + 128) a))

abbrev pub line_or : Option (List ℕ) → Held
line_or None = bad
line_or (Some l) = line l

-- what slot i holds
unfoldable pub held : List ℕ → ℕ → Held
held a i = cond (erased (slot a i)) blank (cond (torn_at a i) torn (line_or (line_in (slot a i))))

-- as the code says it: a line is so many bytes of the room
abbrev pub held_by : Slot → List ℕ → Held
held_by S.Blank out = blank
held_by S.Torn out = torn
held_by (S.Line n) out = line (take n out)
held_by S.Bad out = bad

abbrev pub size_of : Slot → ℕ
size_of S.Blank = 0
size_of S.Torn = 0
size_of (S.Line n) = n
size_of S.Bad = 0

-- ---- The area

-- its line, if it has one
abbrev pub line_for : Held → List ℕ
line_for blank = []
line_for torn = []
line_for (line l) = l
line_for bad = []

-- "slot ", its number, and what is wrong with it
abbrev pub told : ℕ → List ℕ → List ℕ
told i end = (115 ∷ 108 ∷ 111 ∷ 116 ∷ 32 ∷ []) ++ (print_num i ++ end)

-- " is torn" and LF; " is bad" and LF
abbrev pub is_torn : List ℕ
is_torn = 32 ∷ 105 ∷ 115 ∷ 32 ∷ 116 ∷ 111 ∷ 114 ∷ 110 ∷ 10 ∷ []

abbrev pub is_bad : List ℕ
is_bad = 32 ∷ 105 ∷ 115 ∷ 32 ∷ 98 ∷ 97 ∷ 100 ∷ 10 ∷ []

-- the note on slot i
abbrev pub note_for : ℕ → Held → List ℕ
note_for i blank = []
note_for i torn = told i is_torn
note_for i (line l) = []
note_for i bad = told i is_bad

-- what f has for n slots from slot i on, one after the other
unfoldable pub from : (ℕ → List ℕ) → (n i : ℕ) → List ℕ
from f zero i = []
from f (suc n) i = f i ++ from f n (suc i)

-- the lines, and the notes, of a whole area
abbrev pub line_at : List ℕ → ℕ → List ℕ
line_at a i = line_for (held a i)

abbrev pub note_at : List ℕ → ℕ → List ℕ
note_at a i = note_for i (held a i)

unfoldable pub lines_of : List ℕ → List ℕ
lines_of a = from (line_at a) SLOTS 0

unfoldable pub notes_of : List ℕ → List ℕ
notes_of a = from (note_at a) SLOTS 0
