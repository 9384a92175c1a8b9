-- What a rule taken alone answers: the back-off stands just where it runs, and a limit just where it blocks; the first of those that stand is the gate's
-- own answer. Assumes nothing.
use mathlib.Core.Path.{◌≡◌, refl, sym, ap, ◌∙◌, subst}
use mathlib.Core.Bool.{Bool, true, false, cond, not, ◌&&◌}
use mathlib.Core.List.{List, [], ◌∷◌, map}
use mathlib.Core.Logic.{◌≢◌}
use Prim.Native.Nat.{ℕ, zero, suc, ◌+◌, ◌-◌, ◌<◌}
use native.Mathlib.Omega.{arith}
use lib.Dec.{lit<, lit≤, leb, ltb, eqb}
use Rattle.std.specs.Prelude.{Option, is_some}
use lib.Count.{ones, count_trailing_zeros}
use lib.ListN.{length, get_or, get_or-map}
use borrow.Author.Tests.{le-ltb, ltb-true, ltb-false, eq-eqb, ne_eqb}
use Rattle.rules.specs.Calls.{timed, answer}
use Rattle.rules.specs.declared.Event.TheVariants.{Ask as ask}
use Rattle.rules.specs.declared.Answer.{Answer}
use Rattle.rules.specs.Tables.{attach, in_hour, free_in, rules}
use Rattle.rules.specs.Rules.{Limit, limit, limits, blocks, blocked_by, first_block, stands, refusal, runs, verdict, ruling}
use Rattle.rules.specs.State.{State, idle}
use Rattle.rules.proofs.Rows.{Each, Ordered, ordered, each_other}
use Rattle.rules.proofs.Again.{first_is as first-number-is}
use Rattle.refusals.specs.Refusals.{above_zero}
use Rattle.deciding.specs.Limits.{limit_at, waiting}
use Rattle.reasons.specs.Why.{alone, blocked, against, stand, weigh, how_many, leaving, times, refused_by, reasons}
use Rattle.reasons.proofs.Bits.{ones_weigh, first_named, first_weigh}

-- ---- The limits, where one alone is left

-- limit r with n alone left
only : ℕ → Limit → Limit
only n r = limit r.number r.applies (cond (eqb n r.number) r.most 0) r.kind

-- a limit of zero never blocks
and_never : (a b : Bool) → (a && (false && b)) ≡ false
and_never true b = refl
and_never false b = refl

-- no end is left
no_end : (q : ℕ) → get_or idle q 0 ≡ 0
no_end zero = refl
no_end (suc zero) = refl
no_end (suc (suc zero)) = refl
no_end (suc (suc (suc zero))) = refl
no_end (suc (suc (suc (suc q)))) = refl

-- of each limit of a table, so of row i
each_at : (rs : List Limit) (P : Limit → Type 0) (i : ℕ) (d : Limit) → Each P rs → i < length rs → P (get_or rs i d)
each_at [] P i d h g = absurd (omega arith)
each_at (r ∷ rs) P zero d h g = h.0
each_at (r ∷ rs) P (suc i) d h g = each_at rs P i d h.1 (omega arith)

module _ (w : State) (t q : ℕ) where
  alone_limits : (n : ℕ) → limits (alone n w).facts q ≡ map (only n) (limits w.facts q)
  unfolding alone limits only
  alone_limits n = refl

  blocks_only : (n : ℕ) (r : Limit) → blocks (alone n w) t (only n r) ≡ (eqb n r.number && blocks w t r)
  unfolding blocks alone only
  blocks_only n r = go (eqb n r.number)
    where
      go : (b : Bool) → blocks (alone n w) t (limit r.number r.applies (cond b r.most 0) r.kind) ≡ (b && blocks w t r)
      go true = refl
      go false = and_never r.applies (leb 0 (in_hour t (w.lists r.kind)))

  -- the first block of limit n alone
  first_of : ℕ → List Limit → Answer
  first_of n [] = answer 0 0
  first_of n (r ∷ rs) = cond (eqb n r.number && blocks w t r) (blocked_by w t r) (first_of n rs)

  first_only : (n : ℕ) (rs : List Limit) → first_block (alone n w) t (map (only n) rs) ≡ first_of n rs
  unfolding first_of only alone
  first_only n [] = refl
  first_only n (r ∷ rs) = rw (blocks_only n r, first_only n rs) (go (eqb n r.number) (blocks w t r))
    where
      l : List ℕ
      l = w.lists r.kind

      go : (x y : Bool) → cond (x && y) (answer r.number (free_in t (cond x r.most 0) l)) (first_of n rs) ≡ cond (x && y) (answer r.number (free_in t r.most l)) (first_of n rs)
      go true y = refl
      go false y = refl

  -- the number of the first that blocks
  first_number : (rs : List Limit) → (first_block w t rs).number ≡ first_named (map (λ r. r.number) rs) (map (blocks w t) rs)
  first_number [] = refl
  first_number (r ∷ rs) = go (blocks w t r) (first_number rs)
    where
      go : (b : Bool) → (first_block w t rs).number ≡ first_named (map (λ x. x.number) rs) (map (blocks w t) rs)
          → (cond b (blocked_by w t r) (first_block w t rs)).number
          ≡ cond b r.number (first_named (map (λ x. x.number) rs) (map (blocks w t) rs))
      go true e = refl
      go false e = e

  -- where the first number is that of row i, row i blocks, and the seconds are its own
  first_row : (rs : List Limit) → Ordered rs → (i : ℕ) (d : Limit) → i < length rs → (first_block w t rs).number ≡ (get_or rs i d).number
      → (blocks w t (get_or rs i d) ≡ true) × (first_block w t rs ≡ blocked_by w t (get_or rs i d))
  first_row [] o i d h e = absurd (omega arith)
  first_row (r ∷ rs) o zero d h e = go (blocks w t r) refl e
    where
      go : (b : Bool) → blocks w t r ≡ b → (cond b (blocked_by w t r) (first_block w t rs)).number ≡ r.number → (b ≡ true) × (cond b (blocked_by w t r) (first_block w t rs) ≡ blocked_by w t r)
      go true x e = (refl, refl)
      go false x e = absurd (first-number-is (λ n. n ≢ r.number) w t rs (λ k. omega (arith, o.0, k)) (each_other r.number rs o.1.0) e)
  first_row (r ∷ rs) o (suc i) d h e = go (blocks w t r) refl e (first_row rs o.1.1 i d (omega arith))
    where
      go : (b : Bool) → blocks w t r ≡ b → (cond b (blocked_by w t r) (first_block w t rs)).number ≡ (get_or rs i d).number
          → ((first_block w t rs).number ≡ (get_or rs i d).number → (blocks w t (get_or rs i d) ≡ true) × (first_block w t rs ≡ blocked_by w t (get_or rs i d)))
          → (blocks w t (get_or rs i d) ≡ true) × (cond b (blocked_by w t r) (first_block w t rs) ≡ blocked_by w t (get_or rs i d))
      go true x e more = absurd (each_at rs (λ y. y.number ≢ r.number) i d (each_other r.number rs o.1.0) (omega arith) (sym e))
      go false x e more = more e

  -- a limit that is taken alone has no back-off beside it
  no_ends : (n : ℕ) → eqb n 10 ≡ false → (alone n w).facts.services.ends ≡ idle
  unfolding alone
  no_ends n h = ap (λ (b : Bool). cond b w.facts.services.ends idle) h

  no_run : (n : ℕ) → eqb n 10 ≡ false → runs (alone n w).facts t q ≡ false
  unfolding runs
  no_run n h = rw (no_ends n h, no_end q) (go (leb q 3))
    where
      go : (b : Bool) → (b && ltb t 0) ≡ false
      go true = le-ltb t 0 (omega arith)
      go false = refl

  -- ---- A request that no check refuses

  module _ (z : refusal w.facts (timed t (ask q)) ≡ 0) where
    -- the checks look at no limit and at no end
    passes : (n : ℕ) → refusal (alone n w).facts (timed t (ask q)) ≡ 0
    unfolding alone refusal stands
    passes n = z

    alone_answers : (n : ℕ) → ruling (alone n w) (timed t (ask q))
        ≡ cond (runs (alone n w).facts t q) (answer 10 (get_or (alone n w).facts.services.ends q 0 - t)) (first_of n (limits w.facts q))
    unfolding ruling verdict
    alone_answers n = rw (passes n, alone_limits n, first_only n)

    -- the gate itself
    gate_answers : ruling w (timed t (ask q)) ≡ cond (runs w.facts t q) (answer 10 (get_or w.facts.services.ends q 0 - t)) (first_block w t (limits w.facts q))
    unfolding ruling verdict
    gate_answers = rw z

    gate_number : (ruling w (timed t (ask q))).number ≡ cond (runs w.facts t q) 10 (first_named (map (λ r. r.number) (limits w.facts q)) (map (blocks w t) (limits w.facts q)))
    gate_number = ap (λ (a : Answer). a.number) gate_answers ∙ go (runs w.facts t q)
      where
        go : (b : Bool) → (cond b (answer 10 (get_or w.facts.services.ends q 0 - t)) (first_block w t (limits w.facts q))).number
            ≡ cond b 10 (first_named (map (λ r. r.number) (limits w.facts q)) (map (blocks w t) (limits w.facts q)))
        go true = refl
        go false = first_number (limits w.facts q)

    -- what each rule, taken alone, finds: the back-off whether it runs, a limit whether it blocks
    abbrev pub found : List Bool
    found = runs w.facts t q ∷ map (blocks w t) (limits w.facts q)

    -- rule n, taken alone, answers with its own number where it finds something, and permits where not
    pub record Alone (n : ℕ) (b : Bool) : Type 0 where
      pub number : (ruling (alone n w) (timed t (ask q))).number ≡ cond b n 0
      pub stands : against w t q n ≡ b

    by_number : (n : ℕ) (b : Bool) → blocked (answer n 0) ≡ true → (ruling (alone n w) (timed t (ask q))).number ≡ cond b n 0 → Alone n b
    unfolding against
    by_number n b m e = record { number = e; stands = rw e (go b) }
      where
        go : (x : Bool) → blocked (answer (cond x n 0) 0) ≡ x
        go true = m
        go false = refl

    back_off_number : (ruling (alone 10 w) (timed t (ask q))).number ≡ cond (runs w.facts t q) 10 0
    unfolding first_of limits alone runs
    back_off_number = rw (alone_answers 10) (go (runs w.facts t q))
      where
        go : (b : Bool) → (cond b (answer 10 (get_or w.facts.services.ends q 0 - t)) (answer 0 0)).number ≡ cond b 10 0
        go true = refl
        go false = refl

    limit_answers : (n : ℕ) → eqb n 10 ≡ false → ruling (alone n w) (timed t (ask q)) ≡ first_of n (limits w.facts q)
    limit_answers n k = rw (alone_answers n, no_run n k)

    -- each of the seven limits, which answer with a number that is a block's
    record Row (r : Limit) : Type 0 where
      answers : ruling (alone r.number w) (timed t (ask q)) ≡ cond (blocks w t r) (blocked_by w t r) (answer 0 0)
      block : blocked (answer r.number 0) ≡ true

    row_answers : (i : ℕ) → i < 7 → Row (limit_at w.facts q i)
    unfolding first_of limits
    row_answers zero h = record { answers = limit_answers 11 refl; block = refl }
    row_answers (suc zero) h = record { answers = limit_answers 13 refl; block = refl }
    row_answers (suc (suc zero)) h = record { answers = limit_answers 14 refl; block = refl }
    row_answers (suc (suc (suc zero))) h = record { answers = limit_answers 15 refl; block = refl }
    row_answers (suc (suc (suc (suc zero)))) h = record { answers = limit_answers 16 refl; block = refl }
    row_answers (suc (suc (suc (suc (suc zero))))) h = record { answers = limit_answers 17 refl; block = refl }
    row_answers (suc (suc (suc (suc (suc (suc zero)))))) h = record { answers = limit_answers 18 refl; block = refl }
    row_answers (suc (suc (suc (suc (suc (suc (suc i))))))) h = absurd (omega arith)

    row_not_ten : (i : ℕ) → i < 7 → (limit_at w.facts q i).number ≢ 10
    unfolding limits
    row_not_ten i h = each_at (limits w.facts q) (λ r. r.number ≢ 10) i (limit 0 false 0 attach) (omega arith) h

    row_is : (i : ℕ) → i < 7 → Alone (limit_at w.facts q i).number (blocks w t (limit_at w.facts q i))
    row_is i h =
        let r = limit_at w.facts q i in
        by_number r.number (blocks w t r) (row_answers i h).block (ap (λ (a : Answer). a.number) (row_answers i h).answers ∙ go r (blocks w t r))
      where
        go : (r : Limit) (b : Bool) → (cond b (blocked_by w t r) (answer 0 0)).number ≡ cond b r.number 0
        go r true = refl
        go r false = refl

    -- a row of the table, taken alone, stands just where it blocks, and its second number is the seconds until it would permit
    pub row_alone : (i : ℕ) → i < 7 → against w t q (limit_at w.facts q i).number ≡ blocks w t (limit_at w.facts q i)
    row_alone i h = (row_is i h).stands

    pub row_second : (i : ℕ) → i < 7 → blocks w t (limit_at w.facts q i) ≡ true
        → (ruling (alone (limit_at w.facts q i).number w) (timed t (ask q))).second ≡ leaving w (limit_at w.facts q i) + 3600 - t
    row_second i h e = rw ((row_answers i h).answers, e)

    -- and where the gate names its number, that is the gate's second number as well
    pub gate_second : (i : ℕ) → i < 7 → (ruling w (timed t (ask q))).number ≡ (limit_at w.facts q i).number
        → (blocks w t (limit_at w.facts q i) ≡ true) × ((ruling w (timed t (ask q))).second ≡ leaving w (limit_at w.facts q i) + 3600 - t)
    unfolding limits
    gate_second i h e = go (runs w.facts t q) gate_answers
      where
        go : (b : Bool) → ruling w (timed t (ask q)) ≡ cond b (answer 10 (get_or w.facts.services.ends q 0 - t)) (first_block w t (limits w.facts q))
            → (blocks w t (limit_at w.facts q i) ≡ true) × ((ruling w (timed t (ask q))).second ≡ leaving w (limit_at w.facts q i) + 3600 - t)
        go true x = absurd (row_not_ten i h (sym e ∙ ap (λ (a : Answer). a.number) x))
        go false x =
            let f = first_row (limits w.facts q) (ordered w.facts q) i (limit 0 false 0 attach) h (sym (ap (λ (a : Answer). a.number) x) ∙ e) in
            (f.0, ap (λ (a : Answer). a.second) (x ∙ f.1))

    -- each of the eight
    pub each_alone : (i : ℕ) → i < 8 → Alone (get_or rules i 0) (get_or found i false)
    unfolding limits blocks
    each_alone zero h = by_number 10 (get_or found 0 false) refl back_off_number
    each_alone (suc i) h =
        subst (λ (n : ℕ). Alone n (get_or found (suc i) false)) (sym (get_or-map (λ (r : Limit). r.number) (limits w.facts q) i (limit 0 false 0 attach)))
        (subst (λ (b : Bool). Alone (limit_at w.facts q i).number b) (sym (get_or-map (blocks w t) (limits w.facts q) i (limit 0 false 0 attach)))
        (row_is i (omega arith)))

    -- all of them
    one : (i : ℕ) → i < 8 → against w t q (get_or rules i 0) ≡ get_or found i false
    one i h = (each_alone i h).stands

    pub stand_is : stand w t q ≡ found
    unfolding limits
    stand_is = λ i. one 0 (lit< tt) i ∷ one 1 (lit< tt) i ∷ one 2 (lit< tt) i ∷ one 3 (lit< tt) i ∷ one 4 (lit< tt) i ∷ one 5 (lit< tt) i ∷ one 6 (lit< tt) i ∷ one 7 (lit< tt) i ∷ []

    -- the time for row i, where x says whether it stands
    time_by : ℕ → Bool → ℕ
    time_by i x = cond x (leaving w (limit_at w.facts q i)) 0

    pub times_are : times w t q ≡ (0 ∷ map (λ r. cond (blocks w t r) (leaving w r) 0) (limits w.facts q))
    unfolding limits time_by
    times_are =
        λ i.
        0
        ∷ time_by 0 (one 1 (lit< tt) i)
        ∷ time_by 1 (one 2 (lit< tt) i)
        ∷ time_by 2 (one 3 (lit< tt) i)
        ∷ time_by 3 (one 4 (lit< tt) i)
        ∷ time_by 4 (one 5 (lit< tt) i)
        ∷ time_by 5 (one 6 (lit< tt) i)
        ∷ time_by 6 (one 7 (lit< tt) i)
        ∷ []

    -- the first of those that stand is the gate's own answer
    pub first_is : first_named rules (stand w t q) ≡ (ruling w (timed t (ask q))).number
    unfolding limits
    first_is = ap (first_named rules) stand_is ∙ sym gate_number

    -- ---- What the code finds is what is said

    pub said : (m n : ℕ) (bs : List Bool) (ts : List ℕ) → m ≡ weigh bs → n ≡ get_or rules (count_trailing_zeros 32 m) 0
        → bs ≡ found → ts ≡ (0 ∷ map (λ r. cond (blocks w t r) (leaving w r) 0) (limits w.facts q))
        → record { refusal = 0; bits = m; count = ones m; first = n; times = ts } ≡ reasons w t q
    unfolding reasons
    said m n bs ts em en eb et =
        let s : bs ≡ stand w t q = eb ∙ sym stand_is in
        let c : ones m ≡ how_many (stand w t q) = ap ones em ∙ ones_weigh bs ∙ ap how_many s in
        let f : n ≡ (ruling w (timed t (ask q))).number = en ∙ ap (λ (x : ℕ). get_or rules (count_trailing_zeros 32 x) 0) (em ∙ ap weigh s) ∙ first_weigh 32 rules (stand w t q) refl (lit≤ tt) ∙ first_is in
        let u : m ≡ weigh (stand w t q) = em ∙ ap weigh s in
        let v : ts ≡ times w t q = et ∙ sym times_are in
        rw z (λ i. record { refusal = 0; bits = u i; count = c i; first = f i; times = v i })

    pub said_held : (o : Option ℕ) → o ≡ above_zero (waiting w.facts t q) → is_some o ≡ runs w.facts t q
    unfolding runs
    said_held o e = rw e (go (leb q 3))
      where
        end : ℕ
        end = get_or w.facts.services.ends q 0

        some_left : (n : ℕ) → is_some (above_zero n) ≡ not (eqb n 0)
        some_left zero = refl
        some_left (suc n) = sym (ap not (ne_eqb (suc n) 0 (λ z. omega (arith, z))))

        open_end : (x : Bool) → ltb t end ≡ x → not (eqb (end - t) 0) ≡ x
        open_end true d = let l = ltb-true t end d in ap not (ne_eqb (end - t) 0 (λ k. omega arith))
        open_end false d = let l = ltb-false t end d in ap not (eq-eqb (end - t) 0 (omega arith))

        go : (b : Bool) → is_some (above_zero (cond b (end - t) 0)) ≡ (b && ltb t end)
        go true = some_left (end - t) ∙ open_end (ltb t end) refl
        go false = refl

-- a request that is refused
pub refused_said : (w : State) (t q n : ℕ) → n ≡ refusal w.facts (timed t (ask q)) → (n ≡ 0 → ⊥) → refused_by n ≡ reasons w t q
unfolding reasons
refused_said w t q n e h = rw (← e, ne_eqb n 0 h)
