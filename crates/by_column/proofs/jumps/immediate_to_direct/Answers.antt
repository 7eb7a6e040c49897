-- The operand byte is stored at the second one's address.
-- Assumes nothing.
use Rattle.memory.proofs.Laws.{ends, put_then}
use Rattle.memory.specs.Access.{then}
use Rattle.instructions.specs.Effects.{effect_of}
use Rattle.instructions.specs.Gather.{gather_of, loaded}
use Rattle.instructions.specs.Rows.{rows}
use Rattle.instructions.specs.Step.{branch_of, commit_of, finish_of}
use Rattle.by_column.proofs.Laws.{found_then}
use Rattle.by_column.proofs.jumps.immediate_to_direct.Goals as goal

pub returns : goal.returns
unfolding rows gather_of loaded effect_of finish_of commit_of branch_of then
returns c = λ edition. rw (c.past.ensures, c.past-next.ensures)
    (found_then _ _ _ c.fetch-v.ensures
    (found_then _ _ _ (rw c.past-next.ensures at c.d_off-at.ensures) (put_then c.store.ensures ends)))
