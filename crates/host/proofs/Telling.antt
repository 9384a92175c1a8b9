-- A line on standard error, written part by part. Assumes nothing.
use mathlib.Core.List.{List, [], ◌∷◌, ◌++◌}
use Rattle.std.specs.Prelude.{ℕ, Option, Result, Ok, Err, OnOk}
use Rattle.std.specs.Result.{result_and}
use Rattle.std.specs.Io.KnownBytes.{Appends}
use Rattle.std.proofs.KnownBytes.{Appends-trans}
use Rattle.host.specs.Told.{Tells}

pub told : {E : Type 0} (a b c d e : Option (List ℕ)) (r s t u : Result (Unit {0}) E) (what words : List ℕ)
    → OnOk r (Appends a b what) → OnOk s (Appends b c (58 ∷ 32 ∷ [])) → OnOk t (Appends c d words) → OnOk u (Appends d e (10 ∷ []))
    → OnOk (result_and (result_and (result_and r s) t) u) (Tells a e what)
told a b c d e (Ok x) (Ok y) (Ok z) (Ok w) what words f g h k = (words, Appends-trans a b e what (58 ∷ 32 ∷ (words ++ (10 ∷ []))) f (Appends-trans b c e (58 ∷ 32 ∷ []) (words ++ (10 ∷ [])) g (Appends-trans c d e words (10 ∷ []) h k)))
told a b c d e (Err x) s t u what words f g h k = tt
told a b c d e (Ok x) (Err y) t u what words f g h k = tt
told a b c d e (Ok x) (Ok y) (Err z) u what words f g h k = tt
told a b c d e (Ok x) (Ok y) (Ok z) (Err w) what words f g h k = tt
