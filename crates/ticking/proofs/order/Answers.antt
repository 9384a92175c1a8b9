-- `ticking::order` meets its contract. Assumes nothing.
use mathlib.Core.Path.{ap, ◌∙◌}
use mathlib.Core.List.{List}
use Prim.Native.Nat.{ℕ}
use Rattle.request.specs.Request.{tallied, sent}
use Rattle.ticking.proofs.Ticking.{moved_shape}
use Rattle.ticking.proofs.order.Goals as goal

pub send-requires : goal.send-requires
send-requires c = moved_shape c.args.s.now c.requires c.args.t c.advance.ensures

pub returns : goal.returns
returns c =
    let t = c.args.t in
    c.tally.ensures ∙ ap (λ (x : List ℕ). tallied x 12) (c.send.ensures ∙ ap (λ (x : List ℕ). sent x 5 t) c.advance.ensures)
