-- `turning::turn` meets its contract. Assumes nothing.
use Rattle.turning.proofs.Turned.{says_1, says_0, no_length, no_version_1, no_room, can_turn}
use mathlib.Core.Path.{ap, sym}
use mathlib.Core.Bool.{not}
use Rattle.turning.proofs.turn.Goals as goal

pub returns-in_default : goal.returns-in_default
returns-in_default c = rw c.into.ensures (says_1 _ _ (no_length c.args.old.now c.args.s.now c.in_default.ensures.cases))

pub returns-then-not-is_good_as : goal.returns-then-not-is_good_as
returns-then-not-is_good_as c =
    rw c.into-then-not-is_good_as.ensures (says_1 _ _ (no_version_1 c.args.old.now c.args.s.now c.is_good_as.ensures (ap not c.if-not-is_good_as.true)))

pub returns-in_default-as_mut_array : goal.returns-in_default-as_mut_array
returns-in_default-as_mut_array c =
    rw c.into-in_default-as_mut_array.ensures
    (says_1 _ _ (no_room c.args.old.now c.args.s.now c.is_good_as.ensures (ap not c.if-not-is_good_as.false) c.in_default-as_mut_array.ensures.cases))

pub returns : goal.returns
returns c =
    let old = c.args.old.now in
    let s = c.args.s.now in
    says_0 old s (can_turn old s c.is_good_as.ensures (ap not c.if-not-is_good_as.false) c.in-Some-as_mut_array.ensures.cases.long)
    (rw (sym c.in-Some.ensures.cases.same) c.copy.ensures)
