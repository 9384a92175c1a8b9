-- What the parts of a request do to the places. Assumes nothing.
use Rattle.std.specs.Prelude.{ℕ, ◌+◌, ◌-◌, cond, List, leb, eqb, get_or, set}
use Rattle.rules.specs.Tables.{among, counting, one_more}
use Rattle.buffer.specs.Places.{STANDING, COUNTERS, DUE}
use Rattle.buffer.specs.Lists.{permitted}

-- counter i after a block, or an ordered reset
abbrev pub bumped : List ℕ → ℕ → List ℕ
bumped b i = set b (COUNTERS + i) (one_more (get_or b (COUNTERS + i) 0))

-- the counters after answer n
unfoldable pub tallied : List ℕ → ℕ → List ℕ
tallied b n = cond (among n counting) (bumped b (n - 11)) b

-- the standing after a permit of request q
unfoldable pub stood : List ℕ → ℕ → List ℕ
stood b q =
    cond (leb q 3) (set b (STANDING + q) 1)
    (cond (eqb q 4) (set b (STANDING + 2) 0) (set (set (set (set b STANDING 0) (STANDING + 1) 0) (STANDING + 2) 0) (STANDING + 3) 0))

-- the lists after a permit of request q at t: 0 attach, 1 activation, 2 PDP, 3 SMS, 4 reset
unfoldable pub listed : List ℕ → ℕ → ℕ → List ℕ
listed b q t =
    cond (leb q 1) (permitted b 0 t)
    (cond (eqb q 2) (permitted (permitted b 1 t) 2 t) (cond (eqb q 3) (permitted b 3 t) (cond (eqb q 4) (permitted b 2 t) (permitted b 4 t))))

-- all that a permit of request q at t changes, once the clock is at t: request 5 ends the due time
unfoldable pub sent : List ℕ → ℕ → ℕ → List ℕ
sent b q t = cond (eqb q 5) (set (listed (stood b q) q t) DUE 0) (listed (stood b q) q t)
