-- `reasons::standing` meets its contract. Assumes nothing.
use mathlib.Core.Path.{◌∙◌}
use mathlib.Core.List.{[], ◌∷◌}
use Rattle.rules.specs.Rules.{limits}
use Rattle.buffer.specs.Layout.{view}
use Rattle.reasons.proofs.Alone.{said, said_held}
use Rattle.reasons.proofs.standing.Goals as goal

pub returns : goal.returns
unfolding limits
returns c =
    let w = view c.args.s.now in
    let z = c.requires.q_value in
    said w c.args.t c.args.q z c.weigh-bits.result c.first.result _ _ c.weigh-bits.ensures c.first.ensures
    ((λ i. c.is_some-held.ensures i ∷ c.is_some.ensures i ∷ c.is_some-2.ensures i ∷ c.is_some-3.ensures i ∷ c.is_some-4.ensures i ∷ c.is_some-5.ensures i ∷ c.is_some-6.ensures i ∷ c.is_some-7.ensures i ∷ [])
    ∙ (λ i. said_held w c.args.t c.args.q z c.left.result c.left.ensures i ∷ c.look-n1.ensures.stands_value i ∷ c.look-f1.ensures.stands_value i ∷ c.look-f2.ensures.stands_value i ∷ c.look-f3.ensures.stands_value i ∷ c.look-f4.ensures.stands_value i ∷ c.look-a1.ensures.stands_value i ∷ c.look-s1.ensures.stands_value i ∷ []))
    ((λ i. 0 ∷ c.unwrap_or.ensures i ∷ c.unwrap_or-2.ensures i ∷ c.unwrap_or-3.ensures i ∷ c.unwrap_or-4.ensures i ∷ c.unwrap_or-5.ensures i ∷ c.unwrap_or-6.ensures i ∷ c.unwrap_or-7.ensures i ∷ [])
    ∙ (λ i. 0 ∷ c.look-n1.ensures.time_value i ∷ c.look-f1.ensures.time_value i ∷ c.look-f2.ensures.time_value i ∷ c.look-f3.ensures.time_value i ∷ c.look-f4.ensures.time_value i ∷ c.look-a1.ensures.time_value i ∷ c.look-s1.ensures.time_value i ∷ []))
