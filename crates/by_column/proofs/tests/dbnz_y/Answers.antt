-- Y less one, and then the branch.
-- Assumes nothing.
use Rattle.memory.specs.Access.{then}
use Rattle.instructions.specs.Effects.{effect_of}
use Rattle.instructions.specs.Gather.{gather_of, loaded}
use Rattle.instructions.specs.Rows.{rows}
use Rattle.instructions.specs.Step.{branch_of, commit_of, finish_of}
use Rattle.by_column.proofs.tests.dbnz_y.Goals as goal

pub returns : goal.returns
unfolding rows gather_of loaded effect_of finish_of commit_of branch_of then
returns c = λ edition. rw (c.with_y.ensures, c.difference-less.ensures) at c.branch-with_y.ensures
