-- PC is the word at the indexed address.
-- Assumes nothing.
use Rattle.memory.proofs.Laws.{chain, ends}
use Rattle.memory.specs.Access.{then}
use Rattle.modes.specs.Modes.{absolute_pointer}
use Rattle.instructions.specs.Effects.{effect_of}
use Rattle.instructions.specs.Gather.{gather_of, loaded}
use Rattle.instructions.specs.Rows.{rows}
use Rattle.instructions.specs.Step.{branch_of, commit_of, finish_of}
use Rattle.by_column.proofs.Laws.{found_then}
use Rattle.by_column.proofs.jumps.jump_by.Goals as goal

pub returns : goal.returns
unfolding absolute_pointer rows gather_of loaded effect_of finish_of commit_of branch_of then
returns c = λ edition. rw c.jump.ensures
    (found_then _ _ _ (chain _ c.abs_off-at.ensures (chain _ c.read_u16-to.ensures ends)) ends)
