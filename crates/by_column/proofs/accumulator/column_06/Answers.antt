-- Row 6 stores A where X leads; in the others the byte there is read, and A with it is what the row picks.
-- Assumes nothing.
use Rattle.std.proofs.Common.{refl, ap}
use Rattle.memory.proofs.Laws.{ends_at}
use Rattle.memory.specs.Access.Access.{done}
use Rattle.memory.specs.Access.{then}
use Rattle.modes.specs.Modes.{addressed}
use Rattle.instructions.specs.Effects.{effect_of}
use Rattle.instructions.specs.Gather.{gather_of}
use Rattle.instructions.specs.Rows.Mode.{at_x}
use Rattle.instructions.specs.Rows.Operation.{store_a}
use Rattle.instructions.specs.Rows.{rows}
use Rattle.by_column.proofs.Grouped.{accumulates, stores}
use Rattle.by_column.proofs.Laws.{at_row}
use Rattle.by_column.proofs.accumulator.column_06.Goals as goal

pub returns-then-row-eq6 : goal.returns-then-row-eq6
unfolding rows gather_of effect_of then
returns-then-row-eq6 c = λ edition. at_row edition 0x06 6 _ c.if-row-eq6.true
    (stores (done _) store_a 0 (ends_at (ap (addressed _) c.direct-at.ensures)) refl refl
    c.store.ensures)

pub returns : goal.returns
unfolding rows gather_of then
returns c = λ edition. accumulates 0x06 at_x refl edition (done _) _ refl
    c.requires.row_bound c.if-row-eq6.false
    (ends_at (ap (addressed _) c.direct-at.ensures)) refl
    c.read-v.ensures c.accumulate.ensures
