-- The word names an address and a bit; rows 6 and 7 store a byte there, and the others change C alone.
-- Assumes nothing.
use Rattle.std.proofs.Common.{ltb, refl, lt→ltb, rules}
use Rattle.memory.proofs.Laws.{chain, ends, read_then, put_then}
use Rattle.memory.specs.Access.{then}
use Rattle.modes.specs.Modes.{bit_operand}
use Rattle.instructions.specs.Effects.{effect_of}
use Rattle.instructions.specs.Gather.{gather_of}
use Rattle.instructions.specs.Rows.Mode.{memory_bit}
use Rattle.instructions.specs.Rows.{rows}
use Rattle.instructions.specs.Step.{commit_of, branch_of, finish_of}
use Rattle.by_column.proofs.Laws.{found_then, by_table, at_row, registers_alone}
use Rattle.by_column.proofs.Valued.{put_as, in_carries, carry_stores, carry_taken}
use Rattle.by_column.specs.Columns.{carry_group}
use Rattle.by_column.proofs.bits.column_0a.Goals as goal

pub returns-then-row-eq6 : goal.returns-then-row-eq6
unfolding rows gather_of bit_operand effect_of finish_of commit_of branch_of then
returns-then-row-eq6 c = λ edition. rw (
  c.past-next.ensures,
  c.past.ensures,
)
    (at_row edition 0x0A 6 _ c.if-row-eq6.true
    (found_then _ _ _
    (chain _
    c.fetch_u16-word.ensures ends)
    (read_then c.read-v.ensures
    (put_as
    (rw c.value_of-bit.ensures.0 at
    c.with_bit.ensures) c.store.ensures ends))))

pub returns-then-row-eq7 : goal.returns-then-row-eq7
unfolding rows gather_of bit_operand effect_of finish_of commit_of branch_of then
returns-then-row-eq7 c = λ edition. rw (
  c.past-next.ensures,
  c.past.ensures,
)
    (at_row edition 0x0A 7 _ c.if-row-eq7.true
    (found_then _ _ _
    (chain _
    c.fetch_u16-word.ensures ends)
    (read_then c.read-v.ensures
    (rw (← c.value_of-bit.ensures.0)
    (put_then c.store-then-row-eq7.ensures ends)))))

pub returns : goal.returns
unfolding rows gather_of bit_operand then
returns c = λ edition.
    let h = in_carries
    c.requires.row_bound
    c.if-row-eq6.false c.if-row-eq7.false in
    by_table 0x0A (λ k. ltb k 6) carry_group memory_bit refl edition _
    c.requires.row_bound
    (lt→ltb _ 6 h)
    (found_then _ _ _
    (chain _ c.fetch_u16-word.ensures ends)
    (read_then c.read-v.ensures
    (registers_alone (carry_stores _ _ _ h) (carry_taken _ _ _ h)
    ((rw (
      c.past-next.ensures,
      c.past.ensures,
      c.value_of-bit.ensures.0,
    ) at c.carry_with.ensures) _ _ _))))
