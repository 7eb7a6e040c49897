-- The cell of every opcode says what the rule says of the opcode: both tables are computed and compared.
-- Assumes nothing.
use Rattle.std.proofs.Common.{refl}
use Rattle.opcodes.specs.Opcodes.{constants}
use Rattle.opcode_data.specs.Data.{data_of}
use Rattle.laws.specs.Table.{same_table}
use Rattle.opcode_data.proofs.Cells.{cell_of}
use Rattle.opcode_data.proofs.OpcodeData.from_opcode.Goals as goal

pub returns : goal.returns
unfolding constants data_of cell_of
returns c = rw c.operands.ensures (same_table 256 (cell_of _) data_of refl _ c.ranges.opcode.fits)
