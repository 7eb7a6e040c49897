-- The cells of the code's table as the data they say.
-- Assumes nothing.
use Rattle.std.proofs.Common.{ℕ, ◌*◌, ◌-◌, List, [], ◌∷◌, get_or, take, drop}
use Rattle.opcode_data.specs.Cells.{operands}
use Rattle.opcode_data.specs.declared.OpcodeData.{OpcodeData}

-- what a cell says: the name in five bytes, and behind a blank the letters of the operands
abbrev pub cell_at : List ℕ → ℕ → OpcodeData
cell_at cell opcode = record {
  name = get_or cell 0 0 ∷ get_or cell 1 0 ∷ get_or cell 2 0 ∷ get_or cell 3 0 ∷ get_or cell 4 0 ∷ [];
  modes = operands (get_or cell 6 0 ∷ get_or cell 7 0 ∷ get_or cell 8 0 ∷ []) opcode;
}

-- what an opcode's cell says, as the code cuts it out of the 2,560 bytes of the table
unfoldable pub cell_of : List ℕ → ℕ → OpcodeData
cell_of cells opcode = cell_at (take (2560 - opcode * 10) (drop (opcode * 10) cells)) opcode
