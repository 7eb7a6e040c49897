-- The branch is taken where the bit is clear whose number is the row.
-- Assumes nothing.
use Rattle.std.proofs.Common.{true, refl, arith}
use Rattle.memory.proofs.Laws.{read_then}
use Rattle.memory.specs.Access.{then}
use Rattle.instructions.specs.Effects.{effect_of}
use Rattle.instructions.specs.Gather.{gather_of, loaded}
use Rattle.instructions.specs.Rows.Mode.{direct}
use Rattle.instructions.specs.Rows.Operation.{bbc}
use Rattle.instructions.specs.Rows.{rows}
use Rattle.by_column.proofs.Laws.{found_then, by_table}
use Rattle.by_column.proofs.Valued.{named}
use Rattle.by_column.proofs.bits.column_13.Goals as goal

pub returns : goal.returns
unfolding rows gather_of loaded effect_of then
returns c = λ edition.
    by_table 0x13 (λ k. true) (λ k. bbc) direct refl edition _
    c.requires.row_bound tt
    (found_then _ _ _
    c.d_off-at.ensures
    (read_then c.read-v.ensures
    (rw (
      c.past.ensures,
      rw
          (named 0x13 _ (omega arith) c.value_of.ensures.0) at
          c.has_bit.ensures,
    ) at c.branch-past.ensures)))
