-- A store at (X), and X one more.
-- Assumes nothing.
use Rattle.memory.proofs.Laws.{ends, put_at}
use Rattle.memory.specs.Access.{then}
use Rattle.instructions.specs.Effects.{effect_of}
use Rattle.instructions.specs.Gather.{gather_of, loaded}
use Rattle.instructions.specs.Rows.{rows}
use Rattle.instructions.specs.Step.{branch_of, commit_of, finish_of}
use Rattle.by_column.proofs.jumps.store_and_raise.Goals as goal

pub returns : goal.returns
unfolding rows gather_of loaded effect_of finish_of commit_of branch_of then
returns c = λ edition. rw (c.with_x.ensures, c.wrapping_add_u8.ensures.value) (put_at c.direct-at.ensures c.store.ensures ends)
