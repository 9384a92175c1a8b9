-- What is known at a time: the settings of the opening and what the calls since have made of the
-- rest. Assumes nothing.
use Rattle.std.specs.Prelude.{ℕ, List, [], ◌∷◌}
use Rattle.rules.specs.Calls.{Opening}
use Rattle.rules.specs.Tables.{Kind, six, of_six}

-- ---- What is known

-- settled by AT lines
pub record Mode : Type 0 where
  pub nfm : ℕ
  pub start : ℕ
  pub intervals : List ℕ

-- the four services: failures in a row, back-off ends, standing (0 idle, 1 asked, 2 up); the mood
-- of service 2
pub record Services : Type 0 where
  pub failures : List ℕ
  pub ends : List ℕ
  pub standing : List ℕ
  pub mood : ℕ

-- `due` is the time of the reset that T1 asks for; 0 is none
pub record Facts : Type 0 where
  pub opening : Opening
  pub mode : Mode
  pub last : ℕ
  pub counters : List ℕ
  pub services : Services
  pub due : ℕ

-- with the permit times of each list, oldest first, however many
pub record State : Type 0 where
  pub facts : Facts
  pub lists : Kind → List ℕ

-- facts with one part replaced
abbrev pub with_opening : Facts → Opening → Facts
with_opening f o = record { opening = o; mode = f.mode; last = f.last; counters = f.counters; services = f.services; due = f.due }

abbrev pub with_last : Facts → ℕ → Facts
with_last f t = record { opening = f.opening; mode = f.mode; last = t; counters = f.counters; services = f.services; due = f.due }

abbrev pub with_mode : Facts → Mode → Facts
with_mode f m = record { opening = f.opening; mode = m; last = f.last; counters = f.counters; services = f.services; due = f.due }

abbrev pub with_counters : Facts → List ℕ → Facts
with_counters f l = record { opening = f.opening; mode = f.mode; last = f.last; counters = l; services = f.services; due = f.due }

abbrev pub with_services : Facts → Services → Facts
with_services f v = record { opening = f.opening; mode = f.mode; last = f.last; counters = f.counters; services = v; due = f.due }

abbrev pub with_due : Facts → ℕ → Facts
with_due f d = record { opening = f.opening; mode = f.mode; last = f.last; counters = f.counters; services = f.services; due = d }

abbrev pub with_standing : Services → List ℕ → Services
with_standing v l = record { failures = v.failures; ends = v.ends; standing = l; mood = v.mood }

abbrev pub with_backoffs : Services → (failures ends : List ℕ) → Services
with_backoffs v l e = record { failures = l; ends = e; standing = v.standing; mood = v.mood }

abbrev pub idle : List ℕ
idle = 0 ∷ 0 ∷ 0 ∷ 0 ∷ []

-- a new buffer is idle and clear, its last time the opening time, failures and ends 0, lists empty;
-- Start Timer is 0, and no reset is due
unfoldable pub fresh : Opening → (nfm : ℕ) → (intervals counters : List ℕ) → State
fresh o n l c = record {
  facts = record {
    opening = o;
    mode = record { nfm = n; start = 0; intervals = l };
    last = o.opened;
    counters = six (of_six c);
    services = record { failures = idle; ends = idle; standing = idle; mood = 0 };
    due = 0;
  };
  lists = λ k. [];
}
