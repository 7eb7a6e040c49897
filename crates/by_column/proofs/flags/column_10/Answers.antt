-- The row picks the flag that the branch is taken by.
-- Assumes nothing.
use Rattle.by_column.proofs.Valued.{branch_rows}
use Rattle.by_column.proofs.flags.column_10.Goals as goal

pub returns : goal.returns
returns c = λ edition. rw (
  branch_rows edition _ _ c.requires.row_bound,
  ← c.branches.ensures,
) c.branch-cpu.ensures
