-- The target is read; row 3 compares, and the others store what the row makes of both.
-- Assumes nothing.
use Rattle.memory.proofs.Laws.{read_then, ends_at}
use Rattle.memory.specs.Access.{then}
use Rattle.instructions.specs.Effects.{effect_of}
use Rattle.instructions.specs.Step.{commit_of, branch_of, finish_of}
use Rattle.by_column.proofs.Grouped.{straight_pair}
use Rattle.by_column.proofs.Laws.{byte_stored}
use Rattle.by_column.proofs.pairs.combined.Goals as goal

pub returns-then-row-eq3 : goal.returns-then-row-eq3
unfolding effect_of finish_of commit_of branch_of then
returns-then-row-eq3 c = rw c.if-row-eq3.true (read_then c.read-target.ensures (ends_at c.cmp.ensures))

pub returns : goal.returns
unfolding then
returns c = read_then c.read-target.ensures
    (byte_stored (c.combine-next.ensures.stores_byte 0 _) (straight_pair
    c.requires.row_bound _ _)
    (c.combine-next.ensures.leaves 0 _ _) c.store.ensures)
