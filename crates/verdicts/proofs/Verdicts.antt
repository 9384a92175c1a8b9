-- The answer to a timed call on a good buffer, from the first check that it fails. Assumes nothing.
use mathlib.Core.Path.{◌≡◌, refl, sym, ◌∙◌}
use mathlib.Core.Bool.{true}
use mathlib.Core.List.{List}
use Prim.Native.Nat.{ℕ}
use Rattle.std.specs.Prelude.{Result, Ok, Err}
use Rattle.std.specs.Result.{result_and}
use Rattle.rules.specs.declared.Answer.{Answer}
use Rattle.rules.specs.declared.Event.{Event}
use Rattle.rules.specs.Calls.{timed, answer}
use Rattle.rules.specs.Rules.{refusal, verdict, ruling}
use Rattle.refusals.specs.declared.Refusal.{Refusal}
use Rattle.refusals.specs.Refusals.{check_of, told}
use Rattle.refusals.proofs.Found.{err_told}
use Rattle.buffer.specs.Layout.{facts_of, view}
use Rattle.buffer.specs.Good.{good}
use Rattle.clock.proofs.Saying.{rules_on}

module _ (b : List ℕ) (g : good b ≡ true) (t : ℕ) (e : Event) where
  pub accepts : 0 ≡ refusal (facts_of b) (timed t e) → {a : Answer} → a ≡ verdict (view b) (timed t e) → a ≡ ruling (view b) (timed t e)
  accepts d p = p ∙ sym (rules_on b g t e 0 d refl)

  -- a call that is answered 0 where no check refuses it is answered by its checks
  pub checks_only : {A : Type 0} (r : Result A Refusal) → check_of r ≡ refusal (facts_of b) (timed t e) → answer 0 0 ≡ verdict (view b) (timed t e)
      → told (result_and r (Ok (answer 0 0))) ≡ ruling (view b) (timed t e)
  checks_only (Ok done) d p = accepts d p
  checks_only (Err why) d p = err_told (view b) (timed t e) why d
