-- The journal's area: 65,536 bytes, 512 slots of 128. What a slot, a record, a torn record and the
-- area's shape are; what a cut leaves. Nothing here knows what a record means.
use Rattle.std.specs.Prelude.{◌≡◌, Bool, true, false, cond, ◌&&◌, not, List, [], ◌∷◌, ◌++◌, ℕ, zero, suc, ◌+◌, ◌-◌, ◌*◌, ◌≤◌, length, take, drop, get_or, set, replicate, eqb, ltb, Option, Some, None, Result, is_ok}
use Rattle.journal.specs.declared.Full.{Full}
use Rattle.journal.specs.declared.Survey.{Survey}
use Rattle.journal.specs.declared.Survey.TheVariants.{Bad, Clean, Torn}

-- the area's bytes, and its slots
abbrev pub AREA : ℕ
AREA = 65536

abbrev pub SLOTS : ℕ
SLOTS = 512

-- ---- Slots

-- n parts of w bytes
unfoldable pub parts : ℕ → ℕ → List ℕ → List (List ℕ)
parts w zero a = []
parts w (suc n) a = take w a ∷ parts w n (drop w a)

-- the area as its 512 slots
unfoldable pub slots : List ℕ → List (List ℕ)
slots a = parts 128 512 a

-- slot i
abbrev pub slot : List ℕ → ℕ → List ℕ
slot a i = take 128 (drop (i * 128) a)

-- the area with x as slot i
abbrev pub put : List ℕ → ℕ → List ℕ → List ℕ
put a i x = take (i * 128) a ++ (x ++ drop (i * 128 + 128) a)

-- ---- What a cut leaves

-- the area with the record's first k bytes in place in slot i
unfoldable pub written : List ℕ → ℕ → List ℕ → ℕ → List ℕ
written a i r k = put a i (take k r ++ drop k (slot a i))

-- the area with the last k bytes of slot i 255
unfoldable pub filled : List ℕ → ℕ → ℕ → List ℕ
filled a i k = put a i (take (128 - k) (slot a i) ++ replicate k 255)

-- what a cut of an append leaves, and a cut of a filling: after some number of stores, none and all
-- among them
pub record CutAppend (old : List ℕ) (i : ℕ) (r : List ℕ) (a : List ℕ) : Type 0 where
  pub stores : ℕ
  pub most : stores ≤ 128
  pub left : a ≡ written old i r stores

pub record CutFill (old : List ℕ) (i : ℕ) (a : List ℕ) : Type 0 where
  pub stores : ℕ
  pub most : stores ≤ 128
  pub left : a ≡ filled old i stores

-- ---- Kinds of slots; a byte that is missing reads as erased

-- a record begins there: its first byte is not 255
unfoldable pub begun : List ℕ → Bool
begun s = not (eqb (get_or s 0 255) 255)

-- its last byte is 0
unfoldable pub closed : List ℕ → Bool
closed s = eqb (get_or s 127 255) 0

-- a whole record
abbrev pub whole : List ℕ → Bool
whole s = begun s && closed s

-- each byte is 255
unfoldable pub erased : List ℕ → Bool
erased [] = true
erased (x ∷ l) = eqb x 255 && erased l

-- what an append may be given
pub record Record (r : List ℕ) : Type 0 where
  pub long : length r ≡ 128
  pub first : get_or r 0 0 ≡ 255 → ⊥
  pub last : get_or r 127 0 ≡ 0

-- ---- The area's shape: whole records, at most one torn, then 255s

-- the whole records at the front
unfoldable pub records : List (List ℕ) → List (List ℕ)
records [] = []
records (s ∷ l) = cond (whole s) (s ∷ records l) []

-- what stands behind them
unfoldable pub rest : List (List ℕ) → List (List ℕ)
rest [] = []
rest (s ∷ l) = cond (whole s) (rest l) (s ∷ l)

-- a record begins in the first slot (behind the whole records: a torn one)
abbrev pub begins : List (List ℕ) → Bool
begins [] = false
begins (s ∷ l) = begun s

abbrev pub past : List (List ℕ) → List (List ℕ)
past [] = []
past (s ∷ l) = cond (begun s) l (s ∷ l)

unfoldable pub blank : List (List ℕ) → Bool
blank [] = true
blank (s ∷ l) = erased s && blank l

-- a torn record stands behind the whole ones
unfoldable pub torn : List (List ℕ) → Bool
torn l = begins (rest l)

-- behind the whole records, and the torn one where there is one, are only 255s
unfoldable pub shape : List (List ℕ) → Bool
shape l = blank (past (rest l))

-- the first slot that begins with 255; as many as there are slots where none does
unfoldable pub free : List (List ℕ) → ℕ
free [] = zero
free (s ∷ l) = cond (begun s) (suc (free l)) zero

-- a record appended to the first slot that begins with 255: `Ok`, and the area with it; an error
-- where there is none, and the area stays
pub record Appends (a rec : List ℕ) (r : Result (Unit {0}) Full) (y : List ℕ) : Type 0 where
  pub room : is_ok r ≡ ltb (free (slots a)) 512
  pub kept : y ≡ cond (ltb (free (slots a)) 512) (written a (free (slots a)) rec 128) a

-- how many whole records
abbrev pub count : List ℕ → ℕ
count a = length (records (slots a))

-- ---- Restart, of the area

-- the torn record's slot is filled
unfoldable pub mended : List ℕ → List ℕ
mended a = cond (torn (slots a)) (filled a (count a) 128) a

-- from a to b by restarts that were cut in their filling, as often as may be
pub data Dips (a : List ℕ) : List ℕ → Type 0 where
  still : Dips a a
  dip : {b c : List ℕ} → Dips a b → torn (slots b) ≡ true → CutFill b (count b) c → Dips a c

-- what a look at the area finds
unfoldable pub survey : List ℕ → Survey
survey a = cond (shape (slots a)) (cond (torn (slots a)) (Torn (count a)) (Clean (count a))) Bad

-- ---- Restart, with any meaning of records

-- what restart finds in an area: it has the length and the shape, its whole records are l, and
-- restart leaves the area b
pub record Found (a : List ℕ) (l : List (List ℕ)) (b : List ℕ) : Type 0 where
  pub long : length a ≡ 65536
  pub shaped : shape (slots a) ≡ true
  pub reads : records (slots a) ≡ l
  pub leaves : mended a ≡ b

-- a step is none where the record is not one that would have been written at that state
abbrev pub after : {A B : Type 0} → Option A → (A → Option B) → Option B
after None f = None
after (Some s) f = f s

-- the records' meaning, one after the other
unfoldable pub replay : {S : Type 0} → (S → List ℕ → Option S) → S → List (List ℕ) → Option S
replay step s [] = Some s
replay step s (r ∷ l) = after (step s r) (λ t. replay step t l)

-- refused, or the state and the area that restart leaves
pub data Restarted (S : Type 0) : Type 0 where
  refused : Restarted S
  done : S → List ℕ → Restarted S

abbrev pub ending : {S : Type 0} → Option S → List ℕ → Restarted S
ending None b = refused
ending (Some s) b = done s b

unfoldable pub restart : {S : Type 0} → (S → List ℕ → Option S) → S → List ℕ → Restarted S
restart step image a = cond (shape (slots a)) (ending (replay step image (records (slots a))) (mended a)) refused

-- an area that an append may go to, or a restart has left
pub record Good (a : List ℕ) : Type 0 where
  pub long : length a ≡ 65536
  pub shaped : shape (slots a) ≡ true
  pub untorn : torn (slots a) ≡ false

-- ---- The stores, one by one

pub record Store : Type 0 where
  pub place : ℕ
  pub byte : ℕ

-- an append's stores from byte k of the record on: front to back
unfoldable pub append_stores : ℕ → ℕ → List ℕ → List Store
append_stores i k [] = []
append_stores i k (x ∷ r) = record { place = i * 128 + k; byte = x } ∷ append_stores i (k + 1) r

-- a filling's stores, m of them left: from the back
unfoldable pub fill_stores : ℕ → ℕ → List Store
fill_stores i zero = []
fill_stores i (suc m) = record { place = i * 128 + m; byte = 255 } ∷ fill_stores i m

-- the area after stores
unfoldable pub stored : List ℕ → List Store → List ℕ
stored a [] = a
stored a (s ∷ l) = stored (set a s.place s.byte) l
