-- What follows AT+NFM=, by the tests that the code makes. Assumes nothing.
use Prim.Native.Nat.{ℕ, ◌+◌, ◌≤◌, ◌<◌}
use mathlib.Core.Path.{◌≡◌}
use mathlib.Core.Bool.{true, false}
use mathlib.Core.List.{List}
use native.Mathlib.Omega.{arith}
use lib.ListN.{drop}
use lib.Seq.{drop-drop}
use borrow.Author.Tests.{lt-ltb, le-ltb}
use Rattle.at.specs.Lines.{starts, ends, flag_of, flags, cr, comma, ask}
use Rattle.rules.specs.Calls.{query, nfm, nfm_start, bad}

module _ (l : List ℕ) (i : ℕ) where
  pub flags_ask : ends ask (drop i l) ≡ true → flags (drop i l) ≡ query
  unfolding flags
  flags_ask e = rw e

  module _ (p : ends ask (drop i l) ≡ false) (f : ℕ) (e : f ≡ flag_of (drop i l)) where
    pub flags_none : 1 < f → flags (drop i l) ≡ bad
    unfolding flags
    flags_none h = rw (p, ← e, le-ltb f 2 h)

    module _ (h : f ≤ 1) where
      pub flags_nfm : ends cr (drop (i + 1) l) ≡ true → flags (drop i l) ≡ nfm f
      unfolding flags
      flags_nfm a = rw (p, ← e, lt-ltb f 2 (omega arith), drop-drop 1 i l, a)

      module _ (a : ends cr (drop (i + 1) l) ≡ false) where
        pub flags_other : starts comma (drop (i + 1) l) ≡ false → flags (drop i l) ≡ bad
        unfolding flags
        flags_other b = rw (p, ← e, lt-ltb f 2 (omega arith), drop-drop 1 i l, a, b)

        module _ (b : starts comma (drop (i + 1) l) ≡ true) (s : ℕ) (e₂ : s ≡ flag_of (drop (i + 2) l)) where
          pub flags_none2 : 1 < s → flags (drop i l) ≡ bad
          unfolding flags
          flags_none2 k = rw (p, ← e, lt-ltb f 2 (omega arith), drop-drop 1 i l, a, b, drop-drop 2 i l, ← e₂, le-ltb s 2 k)

          module _ (k : s ≤ 1) where
            pub flags_start : ends cr (drop (i + 3) l) ≡ true → flags (drop i l) ≡ nfm_start f s
            unfolding flags
            flags_start q = rw (p, ← e, lt-ltb f 2 (omega arith), drop-drop 1 i l, a, b, drop-drop 2 i l, ← e₂, lt-ltb s 2 (omega arith), drop-drop 3 i l, q)

            pub flags_open : ends cr (drop (i + 3) l) ≡ false → flags (drop i l) ≡ bad
            unfolding flags
            flags_open q = rw (p, ← e, lt-ltb f 2 (omega arith), drop-drop 1 i l, a, b, drop-drop 2 i l, ← e₂, lt-ltb s 2 (omega arith), drop-drop 3 i l, q)
