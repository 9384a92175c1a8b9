-- A choice, by what its test says. Assumes nothing.
use Prim.Native.Nat.{ℕ}
use mathlib.Core.Path.{◌≡◌, refl}
use mathlib.Core.Bool.{Bool, true, false, cond}
use native.Mathlib.Omega.{arith}

-- what holds on each side of a choice holds of the choice
pub cond_by : {A : Type 0} (P : A → Type 0) (b : Bool) {x y : A} → (b ≡ true → P x) → (b ≡ false → P y) → P (cond b x y)
cond_by P true f g = f refl
cond_by P false f g = g refl

-- a test that fails does not hold
pub absurd_bool : {P : Type 0} → false ≡ true → P
absurd_bool e = absurd (let z : ◌≡◌ {A = ℕ} 0 1 = cc e in omega arith)
