-- What is written of a state, from what each test found. Assumes nothing.
use mathlib.Core.Path.{◌≡◌, sym, ap, ◌∙◌}
use mathlib.Core.List.{List, []}
use mathlib.Core.Logic.{◌≢◌}
use Prim.Native.Nat.{ℕ, ◌*◌}
use lib.ListN.{length}
use borrow.Author.Tests.{eq-eqb, ne_eqb}
use Rattle.rules.specs.declared.Answer.{Answer}
use Rattle.buffer.specs.Places.{SIZE, BASE}
use Rattle.turning.specs.Turning.{good1, turned, TurnSays}
use Rattle.turning.proofs.Turned.{accepted, refused_old}
use Rattle.image.specs.Image.{image_of, numbers_of}
use Rattle.turn.specs.Turned.{turned_image}

module _ (bytes : List ℕ) where
  -- another length
  pub not_so_long : length bytes ≢ 4 * BASE → [] ≡ turned_image bytes
  unfolding turned_image
  not_so_long h = rw (ne_eqb (length bytes) (4 * BASE) h)

  module _ (long : length bytes ≡ 4 * BASE) {old b x : List ℕ} {r : Answer} (e : old ≡ numbers_of bytes) (s : TurnSays old b r x) where
    -- the turning call refuses it
    pub refused : length b ≡ SIZE → r.number ≢ 0 → [] ≡ turned_image bytes
    unfolding turned_image
    refused room n = rw (eq-eqb (length bytes) (4 * BASE) long, sym (ap good1 e) ∙ refused_old s room n)

    -- or turns it
    pub turned_over : r.number ≡ 0 → {y : List ℕ} → y ≡ image_of x → y ≡ turned_image bytes
    unfolding turned_image
    turned_over z {y} d =
        let a = accepted s z in
        rw (eq-eqb (length bytes) (4 * BASE) long, sym (ap good1 e) ∙ a.0)
        (d ∙ ap image_of (a.1 ∙ ap turned e))
