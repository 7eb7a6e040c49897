-- The operand byte is read; row 6 compares X with it, and in the others A with it is what the row picks.
-- Assumes nothing.
use Rattle.std.proofs.Common.{not, eqb, refl}
use Rattle.memory.proofs.Laws.{ends_at}
use Rattle.memory.specs.Access.{then}
use Rattle.instructions.specs.Effects.{effect_of}
use Rattle.instructions.specs.Families.{accumulator_group}
use Rattle.instructions.specs.Gather.{gather_of}
use Rattle.instructions.specs.Rows.Mode.{immediate}
use Rattle.instructions.specs.Rows.{rows}
use Rattle.instructions.specs.Step.{commit_of, branch_of, finish_of}
use Rattle.by_column.proofs.Grouped.{quiet}
use Rattle.by_column.proofs.Laws.{at_row, by_table, is_not, found_then, registers_alone}
use Rattle.by_column.specs.Columns.{opcode_at}
use Rattle.by_column.proofs.accumulator.column_08.Goals as goal

pub returns-then-row-eq6 : goal.returns-then-row-eq6
unfolding rows gather_of effect_of finish_of commit_of branch_of then
returns-then-row-eq6 c = λ edition. at_row edition 0x08 6 _ c.if-row-eq6.true
    (found_then _ _ _ c.fetch-v.ensures (ends_at (rw c.past-next.ensures
    at c.cmp.ensures)))

pub returns : goal.returns
unfolding rows gather_of then
returns c = λ edition. let other = is_not 6 c.if-row-eq6.false in
    by_table 0x08 (λ k. not (eqb k 6)) accumulator_group immediate refl edition _
    c.requires.row_bound other
    (found_then _ _ _ c.fetch-v.ensures
    (registers_alone (quiet c.requires.row_bound other _ _).0 (quiet
    c.requires.row_bound other _ _).1 (rw c.past-next.ensures
    at (c.accumulate.ensures (opcode_at 0x08 c.args.row) 0 0))))
