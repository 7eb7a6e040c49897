-- The byte is read and stored with the bit set whose number is the row.
-- Assumes nothing.
use Rattle.std.proofs.Common.{true, refl, arith}
use Rattle.memory.proofs.Laws.{read_then, ends}
use Rattle.memory.specs.Access.{then}
use Rattle.instructions.specs.Effects.{effect_of}
use Rattle.instructions.specs.Gather.{gather_of, loaded}
use Rattle.instructions.specs.Rows.Mode.{direct}
use Rattle.instructions.specs.Rows.Operation.{set1}
use Rattle.instructions.specs.Rows.{rows}
use Rattle.instructions.specs.Step.{commit_of, branch_of, finish_of}
use Rattle.by_column.proofs.Laws.{found_then, by_table}
use Rattle.by_column.proofs.Valued.{named, put_as}
use Rattle.by_column.proofs.bits.column_02.Goals as goal

pub returns : goal.returns
unfolding rows gather_of loaded effect_of finish_of commit_of branch_of then
returns c = λ edition. rw c.past.ensures
    (by_table 0x02 (λ k. true) (λ k. set1) direct refl edition _
    c.requires.row_bound tt
    (found_then _ _ _
    c.d_off-at.ensures
    (read_then c.read-v.ensures
    (put_as (rw (named 0x02 _ (omega arith) c.value_of.ensures.0) at
    c.with_bit.ensures) c.store.ensures ends))))
