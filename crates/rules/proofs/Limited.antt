-- The rules' table has the limits that document 01 names, and no other. Assumes nothing.
use Prim.Native.Nat.{ℕ}
use mathlib.Core.Path.{◌≡◌, refl, ap}
use mathlib.Core.Bool.{Bool, true, false, ◌&&◌, ◌||◌}
use mathlib.Core.List.{List}
use mathlib.Core.Logic.{◌⊎◌, inl, inr}
use lib.Dec.{eqb}
use borrow.Author.Tests.{eqb-true, eq-eqb}
use Rattle.rules.specs.Calls.{Opening, Entry}
use Rattle.rules.specs.Tables.{Kind, attach, activation, pdp, sms, reset}
use Rattle.rules.specs.State.{State}
use Rattle.rules.specs.Record.{mood}
use Rattle.rules.specs.Rules.{Limit, limit, limits}
use Rattle.rules.specs.Told.{tells}
use Rattle.rules.specs.Direct.{Limited, N1, F1, F2, F3, F4, A1, S1}
use Rattle.rules.proofs.Checks.{and_left, and_right}
use Rattle.rules.proofs.Rows.{Each, named}

pub either : (q a b : ℕ) → (q ≡ a) ⊎ (q ≡ b) → (eqb q a || eqb q b) ≡ true
either q a b (inl e) = rw (eq-eqb q a e)
either q a b (inr e) = go (eqb q a) (eqb q b) (eq-eqb q b e)
  where
    go : (x y : Bool) → y ≡ true → (x || y) ≡ true
    go true y h = refl
    go false y h = h

one_of : (q a b : ℕ) → (eqb q a || eqb q b) ≡ true → (q ≡ a) ⊎ (q ≡ b)
one_of q a b e = go (eqb q a) refl e
  where
    go : (x : Bool) → eqb q a ≡ x → (x || eqb q b) ≡ true → (q ≡ a) ⊎ (q ≡ b)
    go true p e = inl (eqb-true q a p)
    go false p e = inr (eqb-true q b e)

-- a limit that applies
abbrev pub applying : (n L : ℕ) → Kind → Limit
applying n L k = record { number = n; applies = true; most = L; kind = k }

both : {x y : Bool} → x ≡ true → y ≡ true → (x && y) ≡ true
both p q = rw (p, q)

module _ (g : State) (past : List Entry) (q : ℕ) where
  -- the limits on request q, as the record has them
  abbrev pub limits_on : List Limit
  limits_on = limits (tells g past).facts q

  abbrev o : Opening
  o = g.facts.opening

  abbrev on : Bool
  on = eqb o.rpm 1

  -- ---- Each limit that document 01 names is the row of its number, and applies

  -- of F1, F2 and F3, which mood m picks
  in_mood : {m : ℕ} → o.rpm ≡ 1 → q ≡ 2 → mood g past ≡ m → (on && (eqb q 2 && eqb (mood g past) m)) ≡ true
  in_mood {m} p e h = both (eq-eqb o.rpm 1 p) (both (eq-eqb q 2 e) (eq-eqb (mood g past) m h))

  pub listed : (n L : ℕ) (k : Kind) → Limited g past q n L k → named n limits_on ≡ applying n L k
  unfolding limits tells
  listed n L k (N1 p e) = ap (λ b. limit 11 b o.N1 reset) (both (eq-eqb o.rpm 1 p) (eq-eqb q 5 e))
  listed n L k (F1 p e m) = ap (λ b. limit 13 b o.F1 activation) (in_mood p e m)
  listed n L k (F2 p e m) = ap (λ b. limit 14 b o.F2 activation) (in_mood p e m)
  listed n L k (F3 p e m) = ap (λ b. limit 15 b o.F3 activation) (in_mood p e m)
  listed n L k (F4 p e) = ap (λ b. limit 16 b o.F4 pdp) (both (eq-eqb o.rpm 1 p) (either q 2 4 e))
  listed n L k (A1 e) = ap (λ b. limit 17 b o.A1 attach) (either q 0 1 e)
  listed n L k (S1 e) = ap (λ b. limit 18 b o.S1 sms) (eq-eqb q 3 e)

  -- ---- Each row that applies is one of them

  rpm_on : (b : Bool) → (on && b) ≡ true → o.rpm ≡ 1
  rpm_on b e = eqb-true o.rpm 1 (and_left on b e)

  row_N1 : (on && eqb q 5) ≡ true → Limited g past q 11 o.N1 reset
  row_N1 e = N1 (rpm_on _ e) (eqb-true q 5 (and_right on _ e))

  -- of F1, F2 and F3
  activates : (m : ℕ) → (on && (eqb q 2 && eqb (mood g past) m)) ≡ true → q ≡ 2
  activates m e = eqb-true q 2 (and_left (eqb q 2) _ (and_right on _ e))

  mood_is : (m : ℕ) → (on && (eqb q 2 && eqb (mood g past) m)) ≡ true → mood g past ≡ m
  mood_is m e = eqb-true (mood g past) m (and_right (eqb q 2) _ (and_right on _ e))

  row_F1 : (on && (eqb q 2 && eqb (mood g past) 1)) ≡ true → Limited g past q 13 o.F1 activation
  row_F1 e = F1 (rpm_on _ e) (activates 1 e) (mood_is 1 e)

  row_F2 : (on && (eqb q 2 && eqb (mood g past) 2)) ≡ true → Limited g past q 14 o.F2 activation
  row_F2 e = F2 (rpm_on _ e) (activates 2 e) (mood_is 2 e)

  row_F3 : (on && (eqb q 2 && eqb (mood g past) 3)) ≡ true → Limited g past q 15 o.F3 activation
  row_F3 e = F3 (rpm_on _ e) (activates 3 e) (mood_is 3 e)

  row_F4 : (on && (eqb q 2 || eqb q 4)) ≡ true → Limited g past q 16 o.F4 pdp
  row_F4 e = F4 (rpm_on _ e) (one_of q 2 4 (and_right on _ e))

  row_A1 : (eqb q 0 || eqb q 1) ≡ true → Limited g past q 17 o.A1 attach
  row_A1 e = A1 (one_of q 0 1 e)

  row_S1 : eqb q 3 ≡ true → Limited g past q 18 o.S1 sms
  row_S1 e = S1 (eqb-true q 3 e)

  -- found by what each row says, wherever it stands
  pub limited : Each (λ r. r.applies ≡ true → Limited g past q r.number r.most r.kind) limits_on
  unfolding limits tells
  limited = search (row_N1, row_F1, row_F2, row_F3, row_F4, row_A1, row_S1)
