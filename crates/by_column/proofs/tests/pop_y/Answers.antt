-- The byte above SP, in Y.
-- Assumes nothing.
use Rattle.std.proofs.Common.{ap}
use Rattle.memory.proofs.Laws.{ends_at}
use Rattle.memory.specs.Access.{then}
use Rattle.processor.specs.Record.{with_y}
use Rattle.instructions.specs.Effects.{effect_of}
use Rattle.instructions.specs.Gather.{gather_of, loaded}
use Rattle.instructions.specs.Rows.{rows}
use Rattle.instructions.specs.Step.{branch_of, commit_of, finish_of}
use Rattle.by_column.proofs.Laws.{found_then}
use Rattle.by_column.proofs.tests.pop_y.Goals as goal

pub returns : goal.returns
unfolding rows gather_of loaded effect_of finish_of commit_of branch_of then
returns c = λ edition. rw c.with_y.ensures (found_then _ _ _ c.pull-v.ensures (ends_at (ap (with_y _) c.raised.ensures)))
