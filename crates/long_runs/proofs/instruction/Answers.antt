-- The opcode is the one of its column and its row, and the column does what the row does.
-- Assumes nothing.
use Rattle.std.proofs.Common.{ap, arith}
use Rattle.registers.specs.Flat.{record_of}
use Rattle.by_column.proofs.Laws.{becomes}
use Rattle.long_runs.proofs.Laws.{step_by}
use Rattle.long_runs.proofs.instruction.Goals as goal

pub returns-in-0 : goal.returns-in-0
returns-in-0 c = step_by c.args.edition _ c.fetch-opcode.ensures 0x00 _ (ap record_of c.past-behind.ensures) c.in-0.is (becomes (c.column_00.ensures c.args.edition))

pub returns-in-1 : goal.returns-in-1
returns-in-1 c = step_by c.args.edition _ c.fetch-opcode.ensures 0x01 _ (ap record_of c.past-behind.ensures) c.in-1.is (c.column_01.ensures c.args.edition)

pub returns-in-2 : goal.returns-in-2
returns-in-2 c = step_by c.args.edition _ c.fetch-opcode.ensures 0x02 _ (ap record_of c.past-behind.ensures) c.in-2.is (c.column_02.ensures c.args.edition)

pub returns-in-3 : goal.returns-in-3
returns-in-3 c = step_by c.args.edition _ c.fetch-opcode.ensures 0x03 _ (ap record_of c.past-behind.ensures) c.in-3.is (c.column_03.ensures c.args.edition)

pub returns-in-4 : goal.returns-in-4
returns-in-4 c = step_by c.args.edition _ c.fetch-opcode.ensures 0x04 _ (ap record_of c.past-behind.ensures) c.in-4.is (c.column_04.ensures c.args.edition)

pub returns-in-5 : goal.returns-in-5
returns-in-5 c = step_by c.args.edition _ c.fetch-opcode.ensures 0x05 _ (ap record_of c.past-behind.ensures) c.in-5.is (c.column_05.ensures c.args.edition)

pub returns-in-6 : goal.returns-in-6
returns-in-6 c = step_by c.args.edition _ c.fetch-opcode.ensures 0x06 _ (ap record_of c.past-behind.ensures) c.in-6.is (c.column_06.ensures c.args.edition)

pub returns-in-7 : goal.returns-in-7
returns-in-7 c = step_by c.args.edition _ c.fetch-opcode.ensures 0x07 _ (ap record_of c.past-behind.ensures) c.in-7.is c.column_07.ensures

pub returns-in-8 : goal.returns-in-8
returns-in-8 c = step_by c.args.edition _ c.fetch-opcode.ensures 0x08 _ (ap record_of c.past-behind.ensures) c.in-8.is (c.column_08.ensures c.args.edition)

pub returns-in-9 : goal.returns-in-9
returns-in-9 c = step_by c.args.edition _ c.fetch-opcode.ensures 0x09 _ (ap record_of c.past-behind.ensures) c.in-9.is (c.column_09.ensures c.args.edition)

pub returns-in-10 : goal.returns-in-10
returns-in-10 c = step_by c.args.edition _ c.fetch-opcode.ensures 0x0A _ (ap record_of c.past-behind.ensures) c.in-10.is (c.column_0a.ensures c.args.edition)

pub returns-in-11 : goal.returns-in-11
returns-in-11 c = step_by c.args.edition _ c.fetch-opcode.ensures 0x0B _ (ap record_of c.past-behind.ensures) c.in-11.is (c.column_0b.ensures c.args.edition)

pub returns-in-12 : goal.returns-in-12
returns-in-12 c = step_by c.args.edition _ c.fetch-opcode.ensures 0x0C _ (ap record_of c.past-behind.ensures) c.in-12.is (c.column_0c.ensures c.args.edition)

pub returns-in-13 : goal.returns-in-13
returns-in-13 c = step_by c.args.edition _ c.fetch-opcode.ensures 0x0D _ (ap record_of c.past-behind.ensures) c.in-13.is (c.column_0d.ensures c.args.edition)

pub returns-in-14 : goal.returns-in-14
returns-in-14 c = step_by c.args.edition _ c.fetch-opcode.ensures 0x0E _ (ap record_of c.past-behind.ensures) c.in-14.is (c.column_0e.ensures c.args.edition)

pub returns-in-15 : goal.returns-in-15
returns-in-15 c = step_by c.args.edition _ c.fetch-opcode.ensures 0x0F _ (ap record_of c.past-behind.ensures) c.in-15.is (c.column_0f.ensures c.args.edition)

pub returns-in-16 : goal.returns-in-16
returns-in-16 c = step_by c.args.edition _ c.fetch-opcode.ensures 0x10 _ (ap record_of c.past-behind.ensures) c.in-16.is (c.column_10.ensures c.args.edition)

pub returns-in-17 : goal.returns-in-17
returns-in-17 c = step_by c.args.edition _ c.fetch-opcode.ensures 0x11 _ (ap record_of c.past-behind.ensures) c.in-17.is (c.column_11.ensures c.args.edition)

pub returns-in-18 : goal.returns-in-18
returns-in-18 c = step_by c.args.edition _ c.fetch-opcode.ensures 0x12 _ (ap record_of c.past-behind.ensures) c.in-18.is (c.column_12.ensures c.args.edition)

pub returns-in-19 : goal.returns-in-19
returns-in-19 c = step_by c.args.edition _ c.fetch-opcode.ensures 0x13 _ (ap record_of c.past-behind.ensures) c.in-19.is (c.column_13.ensures c.args.edition)

pub returns-in-20 : goal.returns-in-20
returns-in-20 c = step_by c.args.edition _ c.fetch-opcode.ensures 0x14 _ (ap record_of c.past-behind.ensures) c.in-20.is (c.column_14.ensures c.args.edition)

pub returns-in-21 : goal.returns-in-21
returns-in-21 c = step_by c.args.edition _ c.fetch-opcode.ensures 0x15 _ (ap record_of c.past-behind.ensures) c.in-21.is (c.column_15.ensures c.args.edition)

pub returns-in-22 : goal.returns-in-22
returns-in-22 c = step_by c.args.edition _ c.fetch-opcode.ensures 0x16 _ (ap record_of c.past-behind.ensures) c.in-22.is (c.column_16.ensures c.args.edition)

pub returns-in-23 : goal.returns-in-23
returns-in-23 c = step_by c.args.edition _ c.fetch-opcode.ensures 0x17 _ (ap record_of c.past-behind.ensures) c.in-23.is c.column_17.ensures

pub returns-in-24 : goal.returns-in-24
returns-in-24 c = step_by c.args.edition _ c.fetch-opcode.ensures 0x18 _ (ap record_of c.past-behind.ensures) c.in-24.is (c.column_18.ensures c.args.edition)

pub returns-in-25 : goal.returns-in-25
returns-in-25 c = step_by c.args.edition _ c.fetch-opcode.ensures 0x19 _ (ap record_of c.past-behind.ensures) c.in-25.is (c.column_19.ensures c.args.edition)

pub returns-in-26 : goal.returns-in-26
returns-in-26 c = step_by c.args.edition _ c.fetch-opcode.ensures 0x1A _ (ap record_of c.past-behind.ensures) c.in-26.is (c.column_1a.ensures c.args.edition)

pub returns-in-27 : goal.returns-in-27
returns-in-27 c = step_by c.args.edition _ c.fetch-opcode.ensures 0x1B _ (ap record_of c.past-behind.ensures) c.in-27.is (c.column_1b.ensures c.args.edition)

pub returns-in-28 : goal.returns-in-28
returns-in-28 c = step_by c.args.edition _ c.fetch-opcode.ensures 0x1C _ (ap record_of c.past-behind.ensures) c.in-28.is (becomes (c.column_1c.ensures c.args.edition))

pub returns-in-29 : goal.returns-in-29
returns-in-29 c = step_by c.args.edition _ c.fetch-opcode.ensures 0x1D _ (ap record_of c.past-behind.ensures) c.in-29.is (becomes (c.column_1d.ensures c.args.edition))

pub returns-in-30 : goal.returns-in-30
returns-in-30 c = step_by c.args.edition _ c.fetch-opcode.ensures 0x1E _ (ap record_of c.past-behind.ensures) c.in-30.is (c.column_1e.ensures c.args.edition)

pub returns-in_default : goal.returns-in_default
returns-in_default c = step_by c.args.edition _ c.fetch-opcode.ensures 0x1F _ (ap record_of c.past-behind.ensures) (omega arith) (c.column_1f.ensures c.args.edition)
