-- What the gate is opened with, what it is asked and what it answers, and a line of the record.
-- Times are seconds. Assumes nothing.
use Rattle.std.specs.Prelude.{ℕ, List}
use Rattle.rules.specs.declared.Answer.{Answer}
-- what became of a request: granted, no answer, or rejected with a cause, whether a second network
-- exists, 1 where one does, and the cause's column: 0 MM, 1 GMM, 2 SM, 3 RP, 4 CP
pub use Rattle.rules.specs.declared.Outcome.{Outcome}
pub use Rattle.rules.specs.declared.Outcome.TheVariants.{Granted as granted, Silent as silent, Rejected as rejected}
-- what happens at a time: request q, an outcome of service s, service 2 dropped, or nothing but the
-- clock
pub use Rattle.rules.specs.declared.Event.{Event}
pub use Rattle.rules.specs.declared.Event.TheVariants.{Ask as ask, Outcome as outcome, Dropped as dropped, Tick as tick}

-- ---- Opening

-- what opening settles for good: its time, the IMSI, RPM, the card's parameters, the house limits,
-- the card's leak rates
pub record Opening : Type 0 where
  pub opened : ℕ
  pub imsi : ℕ
  pub rpm : ℕ
  pub N1 : ℕ
  pub T1 : ℕ
  pub F1 : ℕ
  pub F2 : ℕ
  pub F3 : ℕ
  pub F4 : ℕ
  pub A1 : ℕ
  pub S1 : ℕ
  pub LR1 : ℕ
  pub LR2 : ℕ
  pub LR3 : ℕ

-- the card's counters, in the order of places 44-49
pub data Counter : Type 0 where
  C_BR_1 C_R_1 C_PDP_1 C_PDP_2 C_PDP_3 C_PDP_4 : Counter

-- ---- Calls: what happens at a time, which is an enum of the code, or an AT line

-- an AT line as it was read: AT+NFM=a, AT+NFM=a,s, AT+NFMCI=l, AT+NFM=?, and any other
pub data Line : Type 0 where
  nfm : (a : ℕ) → Line
  nfm_start : (a s : ℕ) → Line
  intervals : (l : List ℕ) → Line
  query : Line
  bad : Line

pub data Call : Type 0 where
  timed : (t : ℕ) → Event → Call
  typed : Line → Call

-- ---- Answers

abbrev pub answer : ℕ → ℕ → Answer
answer n m = record { number = n; second = m }

-- a line of the record: an accepted call, and its answer
pub record Entry : Type 0 where
  pub call : Call
  pub answer : Answer

abbrev pub entry : Call → Answer → Entry
entry c a = record { call = c; answer = a }
