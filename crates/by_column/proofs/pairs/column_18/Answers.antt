-- The last two rows move X; in the others both operands are found, the source is read, and the row does the rest.
-- Assumes nothing.
use Rattle.std.proofs.Common.{refl, ap}
use Rattle.memory.specs.Access.{then}
use Rattle.instructions.specs.Effects.{effect_of}
use Rattle.instructions.specs.Gather.{gather_of}
use Rattle.instructions.specs.Rows.Mode.{direct_immediate}
use Rattle.instructions.specs.Rows.{rows}
use Rattle.registers.specs.Flat.{record_of}
use Rattle.by_column.proofs.Grouped.{moves, pairs}
use Rattle.by_column.proofs.Laws.{found_then}
use Rattle.by_column.proofs.pairs.column_18.Goals as goal

pub returns-then-row-ge6 : goal.returns-then-row-ge6
unfolding rows gather_of effect_of
returns-then-row-ge6 c = λ edition. moves 0x18 edition _ _ refl refl
    c.requires.row_bound
    c.if-row-ge6.true
    c.d_off-at.ensures (ap record_of
    c.past.ensures) c.move_x.ensures

pub returns : goal.returns
unfolding rows gather_of then
returns c = λ edition. pairs 0x18 direct_immediate refl edition _
    c.if-row-ge6.false
    (found_then _ _ _ c.fetch-source.ensures
    (found_then _ _ _ (rw c.past-next.ensures
    at c.d_off-at-2.ensures) (rw (
      c.past-2.ensures,
      c.past-next.ensures,
    ) at c.combined.ensures)))
