-- The last two rows move X; in the others both operands are found, the source is read, and the row does the rest.
-- Assumes nothing.
use Rattle.std.proofs.Common.{refl, ap}
use Rattle.memory.proofs.Laws.{read_then}
use Rattle.memory.specs.Access.{then}
use Rattle.instructions.specs.Effects.{effect_of}
use Rattle.instructions.specs.Gather.{both_loaded, gather_of}
use Rattle.instructions.specs.Rows.Mode.{direct_direct}
use Rattle.instructions.specs.Rows.{rows}
use Rattle.registers.specs.Flat.{record_of}
use Rattle.by_column.proofs.Grouped.{moves, pairs}
use Rattle.by_column.proofs.Laws.{found_then}
use Rattle.by_column.proofs.pairs.column_09.Goals as goal

pub returns-then-row-ge6 : goal.returns-then-row-ge6
unfolding rows gather_of effect_of
returns-then-row-ge6 c = λ edition. moves 0x09 edition _ _ refl refl
    c.requires.row_bound
    c.if-row-ge6.true
    c.abs_off-at.ensures
    (ap record_of (rw c.past.ensures at c.past-then-row-ge6.ensures))
    c.move_x.ensures

pub returns : goal.returns
unfolding rows gather_of both_loaded then
returns c = λ edition. pairs 0x09 direct_direct refl edition _
    c.if-row-ge6.false
    (found_then _ _ _
    c.d_off-from.ensures
    (found_then _ _ _
    (rw c.past-next.ensures
    at c.d_off-at.ensures)
    (read_then c.read-source.ensures
    (rw (
      c.past-2.ensures,
      c.past-next.ensures,
    )
    at c.combined.ensures))))
