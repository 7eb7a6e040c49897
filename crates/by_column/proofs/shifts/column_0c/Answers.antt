-- Row 6 stores Y where the mode leads. The others read the byte there: row 7 takes it into Y, the rest store what the row makes of it.
-- Assumes nothing.
use Rattle.std.proofs.Common.{refl, ap}
use Rattle.instructions.specs.Effects.{effect_of}
use Rattle.instructions.specs.Gather.{gather_of}
use Rattle.instructions.specs.Rows.Mode.{absolute}
use Rattle.instructions.specs.Rows.Operation.{store_y, load_y}
use Rattle.instructions.specs.Rows.{rows}
use Rattle.registers.specs.Flat.{record_of}
use Rattle.by_column.proofs.Grouped.{stores, loads, shifts}
use Rattle.by_column.proofs.Laws.{at_row}
use Rattle.by_column.proofs.shifts.column_0c.Goals as goal

pub returns-then-row-eq6 : goal.returns-then-row-eq6
unfolding rows gather_of effect_of
returns-then-row-eq6 c = λ edition. at_row edition 0x0C 6 _ c.if-row-eq6.true
    (stores _ store_y 0 c.abs_off-at.ensures
    (ap record_of (rw c.past.ensures
    at c.past-behind.ensures)) refl c.store.ensures)

pub returns-then-row-eq7 : goal.returns-then-row-eq7
unfolding rows gather_of effect_of
returns-then-row-eq7 c = λ edition. at_row edition 0x0C 7 _ c.if-row-eq7.true
    (loads _ load_y 0 c.abs_off-at.ensures
    (ap record_of (rw c.past.ensures
    at c.past-behind.ensures)) c.read-v.ensures
    (λ _ _. (refl, refl))
    (rw c.if-row-eq7.true at c.shift-next.ensures.leaves))

pub returns : goal.returns
unfolding rows gather_of
returns c = λ edition. shifts 0x0C absolute refl edition _ _ refl
    c.requires.row_bound
    c.if-row-eq6.false
    c.if-row-eq7.false
    c.abs_off-at.ensures
    (ap record_of (rw c.past.ensures
    at c.past-behind.ensures))
    c.read-v.ensures
    c.shift-next.ensures.leaves c.shift-next.ensures.stores_byte
    c.store-2.ensures
