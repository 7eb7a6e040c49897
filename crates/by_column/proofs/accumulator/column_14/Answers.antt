-- Row 6 stores A where the mode leads; in the others the byte there is read, and A with it is what the row picks.
-- Assumes nothing.
use Rattle.std.proofs.Common.{refl, ap}
use Rattle.instructions.specs.Effects.{effect_of}
use Rattle.instructions.specs.Gather.{gather_of}
use Rattle.instructions.specs.Rows.Mode.{direct_x}
use Rattle.instructions.specs.Rows.Operation.{store_a}
use Rattle.instructions.specs.Rows.{rows}
use Rattle.registers.specs.Flat.{record_of}
use Rattle.by_column.proofs.Grouped.{accumulates, stores}
use Rattle.by_column.proofs.Laws.{at_row}
use Rattle.by_column.proofs.accumulator.column_14.Goals as goal

pub returns-then-row-eq6 : goal.returns-then-row-eq6
unfolding rows gather_of effect_of
returns-then-row-eq6 c = λ edition. at_row edition 0x14 6 _ c.if-row-eq6.true
    (stores _ store_a 0 c.d_off-at.ensures (ap record_of
    c.past-next.ensures) refl c.store.ensures)

pub returns : goal.returns
unfolding rows gather_of
returns c = λ edition. accumulates 0x14 direct_x refl edition _ _ refl
    c.requires.row_bound
    c.if-row-eq6.false
    c.d_off-at.ensures (ap record_of
    c.past-next.ensures) c.read-v.ensures c.accumulate.ensures
