-- How the code cuts the table: the columns that no family takes (crate instructions, specs/Families). The definition of the instructions
-- does not rest on this page.
use Rattle.std.specs.Prelude.{ℕ, ◌%◌, Bool, ◌&&◌, ◌||◌, [], ◌∷◌, ◌==◌, bit_and}
use mir.Val.{has_key}

-- the opcodes that neither a masked family nor one of those three takes
abbrev pub in_columns : ℕ → Bool
in_columns opcode =
    has_key (0 ∷ 10 ∷ 13 ∷ 14 ∷ 15 ∷ []) (opcode % 16) || has_key (8 ∷ 28 ∷ []) (bit_and opcode 31)

-- one column of them; 8 stands for 8 and 12
abbrev pub in_column : ℕ → ℕ → Bool
in_column column opcode = in_columns opcode && (opcode % 16 == column || (column == 8 && opcode % 16 == 12))
