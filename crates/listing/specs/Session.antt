-- The listing program: what it prints for an input.
use Rattle.std.specs.Prelude.{ℕ, zero, suc, ◌+◌, ◌-◌, ◌*◌, ◌%◌, cond, List, [], ◌∷◌, ◌++◌, length, nat_le}
use Rattle.text.specs.Digits.{hex_word}
use Rattle.text.specs.Quoted.{text}
use Rattle.listing.specs.Instruction.{length_of, instruction_text, is_cut}

-- One line: the address in four digits, a blank, the instruction, a newline.
unfoldable pub line_text : ℕ → ℕ → List ℕ → List ℕ
line_text address opcode operands = hex_word address ++ text " " ++ instruction_text opcode operands ++ text "\n"

-- What is printed for the instruction that code bytes start with: its line, or `refused 4` in place of it where it is cut.
unfoldable pub turn_text : ℕ → List ℕ → List ℕ
turn_text address [] = []
turn_text address (opcode ∷ code) = cond (is_cut (opcode ∷ code)) (text "refused 4\n") (line_text address opcode code)

-- How many bytes that stands for: the instruction's, or all that are left of a cut one.
unfoldable pub turn_bytes : List ℕ → ℕ
turn_bytes [] = 0
turn_bytes (opcode ∷ code) = cond (is_cut (opcode ∷ code)) (length code + 1) (length_of opcode)

-- The lines of code bytes that stand at an address, of which the first `before` belong to the instruction before. The address wraps at 65,536.
unfoldable pub lines_of : ℕ → ℕ → List ℕ → List ℕ
lines_of before address [] = []
lines_of (suc before) address (byte ∷ code) = lines_of before ((address + 1) % 65536) code
lines_of zero address (opcode ∷ code) =
    turn_text address (opcode ∷ code) ++ lines_of (turn_bytes (opcode ∷ code) - 1) ((address + 1) % 65536) code

-- the answer to an input of a wrong length
abbrev pub refused_input : List ℕ
refused_input = text "refused 6\n"

-- The program reads a start address, low byte first, and 0 to 4,096 code bytes; any other length gives the one line `refused 6`.
unfoldable pub session_of : List ℕ → List ℕ
session_of [] = refused_input
session_of (low ∷ []) = refused_input
session_of (low ∷ high ∷ code) = cond (nat_le (length code) 4096) (lines_of 0 (high * 256 + low) code) refused_input
