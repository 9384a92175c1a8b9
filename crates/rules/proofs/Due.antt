-- The timed reset over the record: T1's window, that a due time stays until the module is reset,
-- and so that a gateway whose clock goes on does not sit dead after a permanent rejection. Assumes
-- nothing.
use Prim.Native.Nat.{ℕ, ◌+◌, ◌*◌, ◌%◌, ◌≤◌, ◌<◌}
use mathlib.Core.Path.{◌≡◌, refl, ◌∙◌}
use mathlib.Core.Bool.{true}
use mathlib.Core.List.{List, [], ◌∷◌, ◌++◌}
use mathlib.Core.Logic.{◌≢◌}
use native.Mathlib.Nat.{mod-lt}
use native.Mathlib.Omega.{arith}
use Rattle.mixing.specs.Mixing.{drawn}
use Rattle.rules.specs.declared.Answer.{Answer}
use Rattle.rules.specs.Calls.{outcome, rejected, tick, Call, timed, Entry, entry}
use Rattle.rules.specs.Tables.{permanent, delay_for}
use Rattle.rules.specs.State.{State}
use Rattle.rules.specs.Record.{due_now}
use Rattle.rules.specs.Direct.{runs, Orders, orders, Direct}
use Rattle.rules.specs.Demand3.{NoReset, InTheWindow}
use Rattle.rules.proofs.Direct.{due_kept, due_set}

-- ---- The window

pub window : (imsi T1 : ℕ) → (324 * T1 ≤ delay_for imsi T1) × (delay_for imsi T1 ≤ 396 * T1)
unfolding delay_for
window imsi T1 =
    let low : drawn imsi 0 % (72 * T1 + 1) < 72 * T1 + 1 = mod-lt (drawn imsi 0) {m = 72 * T1 + 1} (omega arith) in
    (omega (arith, low), omega (arith, low))

-- ---- A due time stays

due_stays : (g : State) (past : List Entry) → due_now g past ≢ 0 → (later : List Entry) → NoReset later → due_now g (later ++ past) ≡ due_now g past
due_stays g past z [] h = refl
due_stays g past z (x ∷ later) h =
    let e = due_stays g past z later h.1 in
    due_kept g (later ++ past) x.call x.answer h.0 (rw e z) ∙ e

-- ---- So the reset comes in the window, whoever keeps the sentences of demand 3

module _ (g : State) (past : List Entry) (p : ℕ) (set : due_now g past ≡ p + delay_for g.facts.opening.imsi g.facts.opening.T1) where
  in_the_window : g.facts.opening.rpm ≡ 1 → 0 < g.facts.opening.T1 → (next : Call → Answer) → Direct g past next → InTheWindow g past p next
  in_the_window on above next d =
      let w = window g.facts.opening.imsi g.facts.opening.T1 in
      record {
        not_early = λ t e. early t (d.orders_only_then (timed t tick) e);
        not_late = λ t x late room.
            d.orders_then (timed t tick)
            (orders x (record { set = λ z. omega (arith, w.0, z, set, above); not_before = omega (arith, w.1, set, late); on = on; not_full = room }));
      }
    where
      early : (t : ℕ) → Orders g past (timed t tick) → p + 324 * g.facts.opening.T1 ≤ t
      early t (orders x due) = omega (arith, (window g.facts.opening.imsi g.facts.opening.T1).0, due.not_before, set)

-- a permanent rejection at p over a record without a due time, and nothing that resets the module
-- since
pub not_dead : (g : State) (past : List Entry) (p s cause second column : ℕ) (a : Answer) → permanent column cause ≡ true
    → 0 < g.facts.opening.T1 → g.facts.opening.rpm ≡ 1 → due_now g past ≡ 0 → (later : List Entry) → NoReset later
    → (next : Call → Answer) → Direct g (later ++ (entry (timed p (outcome s (rejected cause second column))) a ∷ past)) next
    → InTheWindow g (later ++ (entry (timed p (outcome s (rejected cause second column))) a ∷ past)) p next
not_dead g past p s cause second column a c above on z later h next d =
    let w = window g.facts.opening.imsi g.facts.opening.T1 in
    let e = due_set g past p (outcome s (rejected cause second column)) a (runs c above on) z in
    in_the_window g _ p (due_stays g _ (λ x. omega (arith, w.0, above, x, e)) later h ∙ e) on above next d
