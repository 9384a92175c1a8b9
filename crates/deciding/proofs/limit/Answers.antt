-- `deciding::limit` meets its contract: each arm is its row. Assumes nothing.
use mathlib.Core.Path.{◌≡◌, refl}
use native.Mathlib.Omega.{arith}
use Rattle.rules.specs.Rules.{limits}
use Rattle.buffer.specs.Layout.{facts_of}
use Rattle.deciding.proofs.limit.Goals as goal

pub returns-in-0 : goal.returns-in-0
unfolding limits facts_of
returns-in-0 c = rw c.in-0.is (record { number = refl; applies = refl; most = refl; list = refl })

pub returns-in-1 : goal.returns-in-1
unfolding limits facts_of
returns-in-1 c = rw c.in-1.is (record { number = refl; applies = refl; most = refl; list = refl })

pub returns-in-2 : goal.returns-in-2
unfolding limits facts_of
returns-in-2 c = rw c.in-2.is (record { number = refl; applies = refl; most = refl; list = refl })

pub returns-in-3 : goal.returns-in-3
unfolding limits facts_of
returns-in-3 c = rw c.in-3.is (record { number = refl; applies = refl; most = refl; list = refl })

pub returns-in-4 : goal.returns-in-4
unfolding limits facts_of
returns-in-4 c = rw c.in-4.is (record { number = refl; applies = refl; most = refl; list = refl })

pub returns-in-5 : goal.returns-in-5
unfolding limits facts_of
returns-in-5 c = rw c.in-5.is (record { number = refl; applies = refl; most = refl; list = refl })

pub returns-in_default : goal.returns-in_default
unfolding limits facts_of
returns-in_default c =
    let last : c.args.i ≡ 6 = omega arith in
    rw last (record { number = refl; applies = refl; most = refl; list = refl })
