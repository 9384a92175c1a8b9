-- `journal::record` meets its contract. Assumes nothing.
use Rattle.std.proofs.Common.{arith, List, ℕ, [], get_or, ap, ◌∙◌}
use Rattle.journal.proofs.Reading.{chunk_at}
use Rattle.journal.proofs.record.Goals as goal

pub returns : goal.returns
returns c =
    let a = c.args in
    ap (λ (l : List (List ℕ)). get_or l a.i []) c.as_chunks.ensures.front ∙ chunk_at 128 _ a.i a.area.now (omega arith)
