-- The ways out of restart. Assumes nothing.
use mathlib.Core.Path.{◌≡◌, refl, sym, ap, ◌∙◌}
use mathlib.Core.Bool.{Bool, true, false, false≢true}
use mathlib.Core.List.{List}
use Rattle.std.specs.Prelude.{Option}
use Prim.Native.Nat.{ℕ}
use lib.Dec.{eqb}
use lib.ListN.{length, take}
use borrow.Author.Tests.{eq-eqb, ne_eqb}
use Rattle.rules.specs.Calls.{answer}
use Rattle.buffer.specs.Places.{SIZE}
use Rattle.buffer.specs.Good.{good}
use Rattle.journal.specs.declared.Survey.TheVariants.{Bad, Clean, Torn}
use Rattle.journal.specs.Area.{AREA, slots, filled, survey, replay, restart, Restarted, refused, done, ending}
use Rattle.journal.proofs.Replaying.{restart_bad, restart_clean, restart_torn}
use Rattle.restarting.specs.Restarting.{step, Answers, Recovers, judged, answer_of, area_of, state_of, RestartSays}

module _ (i a x : List ℕ) where
  pub recovers_bad : survey a ≡ Bad → Recovers (restart step i a) a false x a
  recovers_bad e = record { on = λ z. absurd (false≢true z); off = λ z. (restart_bad step i a e, refl) }

  module _ (n : ℕ) (y : Bool) (s : Answers (replay step i (take n (slots a))) y x) where
    pub recovers_clean : survey a ≡ Clean n → Recovers (restart step i a) a y x a
    recovers_clean e = record {
      on = λ z. restart_clean step i a n e ∙ ap (λ (o : Option (List ℕ)). ending o a) (s.on z);
      off = λ z. (restart_clean step i a n e ∙ ap (λ (o : Option (List ℕ)). ending o a) (s.off z), refl);
    }

    module _ (e : survey a ≡ Torn n) where
      pub recovers_stop : y ≡ false → Recovers (restart step i a) a false x a
      recovers_stop h = record {
        on = λ z. absurd (false≢true z);
        off = λ z. (restart_torn step i a n e ∙ ap (λ (o : Option (List ℕ)). ending o (filled a n 128)) (s.off h), refl);
      }

      pub recovers_torn : y ≡ true → (w : List ℕ) → w ≡ filled a n 128 → Recovers (restart step i a) a true x w
      recovers_torn h w d = record {
        on = λ z. restart_torn step i a n e ∙ ap (λ (o : Option (List ℕ)). ending o (filled a n 128)) (s.on h) ∙ ap (λ (v : List ℕ). done x v) (sym d);
        off = λ z. absurd (false≢true (sym z));
      }

module _ (i a s : List ℕ) where
  pub restart_area : (length a ≡ AREA → ⊥) → RestartSays i a s (answer 1 0) a s
  unfolding judged
  restart_area h = let e = ne_eqb (length a) AREA h in record { answered = rw e; kept = rw e; left = rw e }

  module _ (la : length a ≡ AREA) where
    ea : eqb (length a) AREA ≡ true
    ea = eq-eqb (length a) AREA la

    pub restart_state : (length s ≡ SIZE → ⊥) → RestartSays i a s (answer 1 0) a s
    unfolding judged
    restart_state h = let e = ne_eqb (length s) SIZE h in record { answered = rw (ea, e); kept = rw (ea, e); left = rw (ea, e) }

    module _ (ls : length s ≡ SIZE) where
      es : eqb (length s) SIZE ≡ true
      es = eq-eqb (length s) SIZE ls

      pub restart_image : good i ≡ false → RestartSays i a s (answer 7 0) a s
      unfolding judged
      restart_image g = record { answered = rw (ea, es, g); kept = rw (ea, es, g); left = rw (ea, es, g) }

      module _ (g : good i ≡ true) where
        pub judged_is : judged i a s ≡ restart step i a
        unfolding judged
        judged_is = rw (ea, es, g)

        says : (o : Restarted (List ℕ)) → restart step i a ≡ o → RestartSays i a s (answer_of o) (area_of o a) (state_of o s)
        says o e = let q = judged_is ∙ e in record { answered = rw (ea, es, q); kept = rw q; left = rw q }

        module _ (y : Bool) (x w : List ℕ) (r : Recovers (restart step i a) a y x w) where
          pub restart_refused : y ≡ false → RestartSays i a s (answer 7 0) w s
          restart_refused h = rw (r.off h).1 (says refused (r.off h).0)

          pub restart_done : y ≡ true → RestartSays i a s (answer 0 0) w x
          restart_done h = says (done x w) (r.on h)
