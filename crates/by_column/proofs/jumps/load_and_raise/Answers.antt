-- A load from (X), and X one more.
-- Assumes nothing.
use Rattle.std.proofs.Common.{ap}
use Rattle.memory.proofs.Laws.{ends_at, read_at_lem}
use Rattle.memory.specs.Access.{then}
use Rattle.processor.specs.Record.{with_x}
use Rattle.instructions.specs.Effects.{effect_of}
use Rattle.instructions.specs.Gather.{gather_of, loaded}
use Rattle.instructions.specs.Rows.{rows}
use Rattle.instructions.specs.Step.{branch_of, commit_of, finish_of}
use Rattle.by_column.proofs.jumps.load_and_raise.Goals as goal

pub returns : goal.returns
unfolding rows gather_of loaded effect_of finish_of commit_of branch_of then
returns c = λ edition. rw (c.with_x.ensures, c.wrapping_add_u8.ensures.value)
    (read_at_lem c.direct-at.ensures c.read-v.ensures (ends_at (ap (with_x _) c.load_a.ensures)))
