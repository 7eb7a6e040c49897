-- The source's address, the target's, then a read at the first and a store at the second.
-- Assumes nothing.
use Rattle.memory.proofs.Laws.{ends, read_then, put_then}
use Rattle.memory.specs.Access.{then}
use Rattle.instructions.specs.Effects.{effect_of}
use Rattle.instructions.specs.Gather.{gather_of, source_loaded}
use Rattle.instructions.specs.Rows.{rows}
use Rattle.instructions.specs.Step.{commit_of, branch_of, finish_of}
use Rattle.by_column.proofs.Laws.{found_then}
use Rattle.by_column.proofs.words.direct_to_direct.Goals as goal

pub returns : goal.returns
unfolding rows gather_of source_loaded effect_of finish_of commit_of branch_of then
returns c = λ edition. rw (
  c.past.ensures,
  c.past-next.ensures,
)
    (found_then _ _ _
    c.d_off-from.ensures
    (found_then _ _ _
    (rw c.past-next.ensures at
    c.d_off-at.ensures)
    (read_then c.read-v.ensures
    (put_then c.store.ensures ends))))
