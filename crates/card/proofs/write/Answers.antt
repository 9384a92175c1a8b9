-- `card::write` meets its contract. Assumes nothing.
use Rattle.std.proofs.Common.{arith, ◌≡◌, ℕ, length, length-take, ap}
use Rattle.card.specs.Card.{written}
use Rattle.card.proofs.ReadsBack.{six}
use Rattle.card.proofs.write.Goals as goal

pub returns : goal.returns
unfolding written
returns c =
    let p = c.copy_from_slice.ensures in
    let f = c.fill.ensures.after (λ y e. e) in
    let l : length c.args.c ≡ 6 = omega (arith, ap length p.after, p.len, c.fill.ensures.len, c.told-out, length-take {A = ℕ}) in
    rw (p.after, f, c.told-out) (six c.args.c _ l)
