-- The lines that give an order are exactly the prints of the valid orders, and the rules take every such order. Assumes nothing.
use Prim.Native.Nat.{ℕ, zero, suc, ◌+◌, ◌*◌, ◌≤◌, ◌<◌}
use mathlib.Core.Path.{◌≡◌, refl, sym, ap, ◌∙◌, subst}
use mathlib.Core.Bool.{Bool, true, false, ◌&&◌}
use mathlib.Core.List.{List, [], ◌∷◌, ◌++◌, append_assoc, append-nil}
use mathlib.Core.Logic.{◌⊎◌, inl, inr}
use native.Mathlib.Omega.{arith}
use lib.ListN.{length, length-append, drop, drop_of_length-le}
use lib.Seq.{drop-drop}
use lib.Dec.{ltb, leb, lit<}
use borrow.Author.Tests.{le-leb, ltb-true, leb-true}
use Rattle.text.specs.Number.{digit_of, Part, got, none, digits, num}
use Rattle.text.specs.Printed.{dec, print_num, After}
use Rattle.text.proofs.Choice.{cond_by, absurd_bool}
use Rattle.text.proofs.Printed.{below, num_print, num_said, dec_short}
use Rattle.rules.specs.Calls.{Line, query, nfm, nfm_start, intervals, bad, typed}
use Rattle.rules.specs.Tables.{ascending, scheduled}
use Rattle.rules.specs.Rules.{refusal}
use Rattle.rules.specs.State.{Facts}
use Rattle.at.specs.Lines.{starts, ends, at_nfm, at_nfmci, ask, cr, comma, flag_of, flags, ints, one_int, ints_line, read_line}
use Rattle.at.specs.Print.{print_more, print_ints, print_line, Valid}
use Rattle.at.proofs.LineLaws.{starts_word, flag_word}
use Rattle.at.proofs.IntsLaws.{ints_last, ints_more}

-- ---- The rules' test of intervals, in parts

-- none below the one before, and none above 65535
abbrev Rising : ℕ → List ℕ → Type 0
Rising last [] = Unit {0}
Rising last (x ∷ xs) = (last ≤ x) × (x ≤ 65535) × Rising x xs

both : (a b : Bool) → (a && b) ≡ true → (a ≡ true) × (b ≡ true)
both true b e = (refl, e)
both false b e = absurd_bool e

to_ascending : (last : ℕ) (xs : List ℕ) → Rising last xs → ascending last 65535 xs ≡ true
unfolding ascending
to_ascending last [] r = refl
to_ascending last (x ∷ xs) r = rw (le-leb last x r.0, le-leb x 65535 r.1, to_ascending x xs r.2)

from_ascending : (last : ℕ) (xs : List ℕ) → ascending last 65535 xs ≡ true → Rising last xs
unfolding ascending
from_ascending last [] e = tt
from_ascending last (x ∷ xs) e =
    let p = both _ _ e in
    let q = both _ _ p.1 in
    (leb-true last x p.0, leb-true x 65535 q.0, from_ascending x xs q.1)

to_scheduled : (xs : List ℕ) → 1 ≤ length xs → length xs ≤ 10 → Rising 1 xs → scheduled xs ≡ true
to_scheduled xs a b r = rw (le-leb 1 (length xs) a, le-leb (length xs) 10 b, to_ascending 1 xs r)

pub from_scheduled : (xs : List ℕ) → scheduled xs ≡ true → (1 ≤ length xs) × (length xs ≤ 10) × Rising 1 xs
from_scheduled xs e =
    let p = both _ _ e in
    let q = both _ _ p.0 in
    (leb-true 1 (length xs) q.0, leb-true (length xs) 10 q.1, from_ascending 1 xs p.1)

-- ---- Words

ends_word : (w l : List ℕ) → ends w l ≡ true → l ≡ w
unfolding ends
ends_word w l e =
    cond_by (λ (r : Bool). r ≡ true → l ≡ w) (starts w l) {x = leb (length l) (length w)} {y = false}
    (λ p q. starts_word w l p ∙ (ap (λ (r : List ℕ). w ++ r) (drop_of_length-le l (leb-true _ _ q)) ∙ append-nil w)) (λ p q. absurd_bool q) e

-- ---- Whatever is read is printed

-- what a line says: no order, or a valid order whose print it is
abbrev Said : List ℕ → Line → Type 0
Said l query = l ≡ print_line query
Said l (nfm a) = Valid (nfm a) × (l ≡ print_line (nfm a))
Said l (nfm_start a s) = Valid (nfm_start a s) × (l ≡ print_line (nfm_start a s))
Said l (intervals xs) = Valid (intervals xs) × (l ≡ print_line (intervals xs))
Said l bad = Unit {0}

flags_said : (l : List ℕ) → Said (at_nfm ++ l) (flags l)
unfolding flags
flags_said l =
    let P : Line → Type 0 = Said (at_nfm ++ l) in
    cond_by P (ends ask l) (λ e. ap (λ (r : List ℕ). at_nfm ++ r) (ends_word ask l e)) (λ _.
    cond_by P (ltb (flag_of l) 2) (λ f.
    cond_by P (ends cr (drop 1 l)) (λ e. (ltb-true _ _ f, ap (λ (r : List ℕ). at_nfm ++ r) (flag_word l (ltb-true _ _ f) ∙ ap (λ (r : List ℕ). (48 + flag_of l) ∷ r) (ends_word cr (drop 1 l) e)))) (λ _.
    cond_by P (starts comma (drop 1 l)) (λ k.
    cond_by P (ltb (flag_of (drop 2 l)) 2) (λ g.
    cond_by P (ends cr (drop 3 l)) (λ e. (
      (ltb-true _ _ f, ltb-true _ _ g),
      ap (λ (r : List ℕ). at_nfm ++ r)
          (flag_word l (ltb-true _ _ f) ∙ ap (λ (r : List ℕ). (48 + flag_of l) ∷ r)
          (starts_word comma (drop 1 l) k ∙ ap (λ (r : List ℕ). 44 ∷ r)
          (drop-drop 1 1 l ∙ (flag_word (drop 2 l) (ltb-true _ _ g) ∙ ap (λ (r : List ℕ). (48 + flag_of (drop 2 l)) ∷ r) (drop-drop 1 2 l ∙ ends_word cr (drop 3 l) e))))),
    ))
    (λ _. tt)) (λ _. tt)) (λ _. tt))) (λ _. tt))

more_ints : (xs : List ℕ) → 1 ≤ length xs → print_more xs ≡ 44 ∷ print_ints xs
more_ints [] h = absurd (omega arith)
more_ints (x ∷ xs) h = refl

-- how a list of at most k intervals, none below last, after those done, comes to be answered by ys
record Listing (k : ℕ) (l : List ℕ) (last : ℕ) (done ys : List ℕ) : Type 0 where
  xs : List ℕ
  all : ys ≡ done ++ xs
  text : l ≡ print_ints xs ++ cr
  some : 1 ≤ length xs
  few : length xs ≤ k
  rising : Rising last xs

abbrev Out : ℕ → List ℕ → ℕ → List ℕ → List ℕ → Type 0
Out k l last done ys = (ys ≡ []) ⊎ Listing k l last done ys

one_more : (k : ℕ) (l r : List ℕ) (last v : ℕ) (done ys : List ℕ) → l ≡ print_num v ++ r → r ≡ 44 ∷ drop 1 r → last ≤ v → v ≤ 65535 → Out k (drop 1 r) v (done ++ (v ∷ [])) ys → Out (suc k) l last done ys
one_more k l r last v done ys e c h m (inl z) = inl z
one_more k l r last v done ys e c h m (inr x) =
    inr (record {
      xs = v ∷ x.xs;
      all = x.all ∙ append_assoc done (v ∷ []) x.xs;
      text = e ∙ (ap (λ (t : List ℕ). print_num v ++ t) (c ∙ (ap (λ (t : List ℕ). 44 ∷ t) x.text ∙ ap (λ (t : List ℕ). t ++ cr) (sym (more_ints x.xs x.some)))) ∙ sym (append_assoc (print_num v) (print_more x.xs) cr));
      some = omega arith;
      few = let f = x.few in omega arith;
      rising = (h, m, x.rising);
    })

one_said : (k : ℕ) (l : List ℕ) (last : ℕ) (done : List ℕ) (part : Part) → After 65535 l part → ((v : ℕ) (r : List ℕ) → Out k r v (done ++ (v ∷ [])) (ints k r v (done ++ (v ∷ [])))) → Out (suc k) l last done (one_int part last done (λ v r. ints k r v (done ++ (v ∷ []))))
one_said k l last done none a ih = inl refl
one_said k l last done (got v r) a ih =
    let P : List ℕ → Type 0 = Out (suc k) l last done in
    cond_by P (leb last v) (λ h. cond_by P (ends cr r)
    (λ p. inr (record {
      xs = v ∷ [];
      all = refl;
      text = a.0 ∙ (ap (λ (t : List ℕ). print_num v ++ t) (ends_word cr r p) ∙ sym (append_assoc (print_num v) [] cr));
      some = omega arith;
      few = omega arith;
      rising = (leb-true last v h, a.1, tt);
    }))
    (λ _. cond_by P (starts comma r) (λ q. one_more k l r last v done _ a.0 (starts_word comma r q) (leb-true last v h) a.1 (ih v (drop 1 r))) (λ _. inl refl))) (λ _. inl refl)

ints_said : (k : ℕ) (l : List ℕ) (last : ℕ) (done : List ℕ) → Out k l last done (ints k l last done)
unfolding ints
ints_said zero l last done = inl refl
ints_said (suc k) l last done = one_said k l last done (num 65535 l) (num_said 65535 (omega arith) l) (λ v r. ints_said k r v (done ++ (v ∷ [])))

line_said : (l ys : List ℕ) → l ≡ at_nfmci ++ drop 9 l → Out 10 (drop 9 l) 1 [] ys → Said l (ints_line ys)
line_said l ys e (inl z) = subst (λ (zs : List ℕ). Said l (ints_line zs)) (sym z) tt
line_said l ys e (inr x) = subst (λ (zs : List ℕ). Said l (ints_line zs)) (sym x.all) (go x.xs x.some x.few x.rising x.text)
  where
    go : (xs : List ℕ) → 1 ≤ length xs → length xs ≤ 10 → Rising 1 xs → drop 9 l ≡ print_ints xs ++ cr → Said l (ints_line xs)
    go [] s f r t = absurd (omega arith)
    go (v ∷ xs) s f r t = (to_scheduled (v ∷ xs) s f r, e ∙ ap (λ (u : List ℕ). at_nfmci ++ u) t)

-- A line gives no order, or a valid one whose print it is.
said : (l : List ℕ) → Said l (read_line l)
unfolding read_line
said l =
    cond_by (Said l) (starts at_nfm l) (λ e. subst (λ (t : List ℕ). Said t (flags (drop 7 l))) (sym (starts_word at_nfm l e)) (flags_said (drop 7 l)))
    (λ _. cond_by (Said l) (starts at_nfmci l) (λ e. line_said l _ (starts_word at_nfmci l e) (ints_said 10 (drop 9 l) 1 [])) (λ _. tt))

-- ---- Read back as printed

nfm_back : (a : ℕ) → a < 2 → read_line (print_line (nfm a)) ≡ nfm a
unfolding read_line flags starts ends flag_of
nfm_back zero h = refl
nfm_back (suc zero) h = refl
nfm_back (suc (suc a)) h = absurd (omega arith)

start_back : (a s : ℕ) → a < 2 → s < 2 → read_line (print_line (nfm_start a s)) ≡ nfm_start a s
unfolding read_line flags starts ends flag_of
start_back zero zero h k = refl
start_back zero (suc zero) h k = refl
start_back (suc zero) zero h k = refl
start_back (suc zero) (suc zero) h k = refl
start_back zero (suc (suc s)) h k = absurd (omega arith)
start_back (suc zero) (suc (suc s)) h k = absurd (omega arith)
start_back (suc (suc a)) s h k = absurd (omega arith)

ints_back : (xs : List ℕ) (v k last : ℕ) (done : List ℕ) → length xs ≤ k → 1 ≤ last → Rising last (v ∷ xs) → ints (suc k) (print_ints (v ∷ xs) ++ cr) last done ≡ done ++ (v ∷ xs)
unfolding ends starts
ints_back [] v k last done f p r =
    ap (λ (t : List ℕ). ints (suc k) t last done) (append_assoc (print_num v) [] cr)
    ∙ ints_last k (print_num v ++ cr) last done v cr (num_print 65535 v cr (let a = r.1 in omega arith) r.1 (below 13 [] (lit< tt))) r.0 refl
ints_back (y ∷ ys) v zero last done f p r = absurd (omega arith)
ints_back (y ∷ ys) v (suc k) last done f p r =
    let rest : List ℕ = 44 ∷ (print_ints (y ∷ ys) ++ cr) in
    ap (λ (t : List ℕ). ints (suc (suc k)) t last done) (append_assoc (print_num v) (44 ∷ print_ints (y ∷ ys)) cr)
    ∙ (ints_more (suc k) (print_num v ++ rest) last done v rest (num_print 65535 v rest (let a = r.1 in omega arith) r.1 (below 44 (print_ints (y ∷ ys) ++ cr) (lit< tt))) r.0 refl refl
    ∙ (ints_back ys y k v (done ++ (v ∷ [])) (omega arith) (let a = r.0 in omega arith) r.2 ∙ append_assoc done (v ∷ []) (y ∷ ys)))

read_ints : (l : List ℕ) → read_line (at_nfmci ++ l) ≡ ints_line (ints 10 l 1 [])
unfolding read_line starts
read_ints l = refl

-- Reading what is printed gives the order back, for every valid order.
pub back : (o : Line) → Valid o → read_line (print_line o) ≡ o
unfolding read_line flags starts ends flag_of
back query h = refl
back (nfm a) h = nfm_back a h
back (nfm_start a s) h = start_back a s h.0 h.1
back (intervals []) h = absurd_bool h
back (intervals (v ∷ xs)) h = read_ints (print_ints (v ∷ xs) ++ cr) ∙ ap ints_line (let k = from_scheduled (v ∷ xs) h in ints_back xs v 9 1 [] (let a = k.1 in omega arith) (omega arith) k.2)
back bad h = absurd h

-- ---- A line that gives an order has at most 69 bytes, so at most 96

more_short : (last : ℕ) (xs : List ℕ) → Rising last xs → length (print_more xs) ≤ 6 * length xs
more_short last [] r = omega arith
more_short last (x ∷ xs) r =
    let a = dec_short 20 5 x (let h = r.1 in omega arith) (omega arith) in
    let b = more_short x xs r.2 in
    omega (arith, length-append (print_num x) (print_more xs))

order_short : (o : Line) → Valid o → length (print_line o) ≤ 69
order_short query h = omega arith
order_short (nfm a) h = omega arith
order_short (nfm_start a s) h = omega arith
order_short (intervals []) h = omega arith
order_short (intervals (x ∷ xs)) h =
    let k = from_scheduled (x ∷ xs) h in
    let a = dec_short 20 5 x (let b = k.2.1 in omega arith) (omega arith) in
    let b = more_short x xs k.2.2 in
    omega (arith, length-append (print_ints (x ∷ xs)) cr, length-append (print_num x) (print_more xs), k.1)
order_short bad h = absurd h

-- Whatever is not read as bad is exactly the print of a valid order, and has at most 96 bytes.
pub accepted : (l : List ℕ) → (read_line l ≡ bad → ⊥) → Valid (read_line l) × (l ≡ print_line (read_line l)) × (length l ≤ 96)
accepted l n = go (read_line l) n (said l)
  where
    go : (o : Line) → (o ≡ bad → ⊥) → Said l o → Valid o × (l ≡ print_line o) × (length l ≤ 96)
    go query m s = (tt, s, rw s (omega arith))
    go (nfm a) m s = (s.0, s.1, rw s.1 (omega arith))
    go (nfm_start a b) m s = (s.0, s.1, rw s.1 (omega arith))
    go (intervals xs) m s = (s.0, s.1, rw s.1 (let k = order_short (intervals xs) s.0 in omega arith))
    go bad m s = absurd (m refl)

-- ---- The rules take what is read

valid_taken : (o : Line) (f : Facts) → Valid o → refusal f (typed o) ≡ 0
unfolding refusal
valid_taken query f h = refl
valid_taken (nfm a) f h = rw (le-leb a 1 (omega arith))
valid_taken (nfm_start a s) f h = rw (le-leb a 1 (let k = h.0 in omega arith), le-leb s 1 (let k = h.1 in omega arith))
valid_taken (intervals xs) f h = rw h
valid_taken bad f h = absurd h

-- A line that gives an order is not refused.
pub read_accepted : (l : List ℕ) (f : Facts) → (read_line l ≡ bad → ⊥) → refusal f (typed (read_line l)) ≡ 0
read_accepted l f n = valid_taken (read_line l) f (accepted l n).0

-- ---- Two lines, as they are written

-- AT+NFMCI=60,960,1920 and CR
sample : read_line (65 ∷ 84 ∷ 43 ∷ 78 ∷ 70 ∷ 77 ∷ 67 ∷ 73 ∷ 61 ∷ 54 ∷ 48 ∷ 44 ∷ 57 ∷ 54 ∷ 48 ∷ 44 ∷ 49 ∷ 57 ∷ 50 ∷ 48 ∷ 13 ∷ []) ≡ intervals (60 ∷ 960 ∷ 1920 ∷ [])
unfolding read_line starts ends ints num digits digit_of
sample = refl

-- AT+NFMCI=60,65535 and CR
printed : print_line (intervals (60 ∷ 65535 ∷ [])) ≡ at_nfmci ++ (54 ∷ 48 ∷ 44 ∷ 54 ∷ 53 ∷ 53 ∷ 51 ∷ 53 ∷ 13 ∷ [])
unfolding dec
printed = refl
