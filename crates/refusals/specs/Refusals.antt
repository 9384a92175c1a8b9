-- The refusals by document 01's numbers, and what is found as two numbers. Assumes nothing.
use Rattle.std.specs.Prelude.{ℕ, zero, suc, Option, Some, None, Result, Ok, Err}
use Rattle.rules.specs.declared.Answer.{Answer}
use Rattle.rules.specs.Calls.{answer}
use Rattle.refusals.specs.declared.Refusal.{Refusal}
use Rattle.refusals.specs.declared.Refusal.TheVariants.{Buffer, Range, Time, Standing, Line, Full, Image}

-- the number of a refusal
abbrev pub number_of : Refusal → ℕ
number_of Buffer = 1
number_of Range = 2
number_of Time = 3
number_of Standing = 4
number_of Line = 5
number_of Full = 6
number_of Image = 7

-- a refusal as two numbers
abbrev pub refused_as : Refusal → Answer
refused_as why = answer (number_of why) 0

-- what a call found, an answer or why it is refused, as two numbers
abbrev pub told : Result Answer Refusal → Answer
told (Ok a) = a
told (Err why) = refused_as why

-- the number of the check that failed, 0 where none did
abbrev pub check_of : {A : Type 0} → Result A Refusal → ℕ
check_of (Ok a) = 0
check_of (Err why) = number_of why

-- a number above 0, or none
abbrev pub above_zero : ℕ → Option ℕ
above_zero zero = None
above_zero (suc n) = Some (suc n)
