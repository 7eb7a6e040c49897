-- The byte less one is stored before the branch.
-- Assumes nothing.
use Rattle.std.proofs.Common.{rules}
use Rattle.memory.proofs.Laws.{put_then, read_then}
use Rattle.memory.specs.Access.{then}
use Rattle.instructions.specs.Effects.{effect_of}
use Rattle.instructions.specs.Gather.{gather_of, loaded}
use Rattle.instructions.specs.Rows.{rows}
use Rattle.instructions.specs.Step.{branch_of, commit_of, finish_of}
use Rattle.by_column.proofs.Laws.{found_then}
use Rattle.by_column.proofs.tests.dbnz_memory.Goals as goal

pub returns : goal.returns
unfolding rows gather_of loaded effect_of finish_of commit_of branch_of then
returns c = λ edition. found_then _ _ _ c.d_off-at.ensures
    (read_then c.read-v.ensures
    (put_then (rw c.difference-less.ensures at c.store.ensures) (rw (c.past.ensures, c.difference-less.ensures) at c.branch-past.ensures)))
