-- The vector, PC and the old flags pushed, and then it is the vector's address.
-- Assumes nothing.
use Rattle.memory.proofs.Laws.{ends}
use Rattle.memory.specs.Access.{then}
use Rattle.instructions.specs.Effects.{effect_of}
use Rattle.instructions.specs.Gather.{gather_of, loaded, vector}
use Rattle.instructions.specs.Rows.{rows}
use Rattle.instructions.specs.Step.{branch_of, commit_of, finish_of}
use Rattle.by_column.proofs.Laws.{found_then}
use Rattle.by_column.proofs.jumps.brk.Goals as goal

pub returns : goal.returns
unfolding vector rows gather_of loaded effect_of finish_of commit_of branch_of then
returns c = λ edition. rw c.jump.ensures
    (found_then _ _ _ c.read_u16-to.ensures
    (found_then _ _ _ (rw c.with_rest-next.ensures at c.push_word-pushed.ensures)
    (found_then _ _ _ (rw c.status.ensures at c.push.ensures) ends)))
