-- One instruction's length and text, from its bytes.
use Rattle.std.specs.Prelude.{ℕ, ◌+◌, Bool, true, cond, List, [], ◌∷◌, ◌++◌, length, ◌==◌, nat_lt}
use Prim.Native.Char.{code}
use Rattle.refusals.specs.declared.Refusal.TheVariants.{Operands}
use Rattle.text.specs.Given.{Wanted, says, refuses}
use Rattle.text.specs.Quoted.{text}
use Rattle.opcode_data.specs.Data.{data_of}
use Rattle.opcode_data.specs.Format.{text_at}
use Rattle.opcode_data.specs.Lists.{list_of}
use Rattle.opcode_data.specs.declared.AddressMode.{AddressMode}
use Rattle.listing.specs.Operands.{Operand, operands_of, bytes_of}

-- the modes of an opcode
abbrev pub modes_at : ℕ → List AddressMode
modes_at opcode = list_of (data_of opcode).modes

-- the operands of an opcode, each with its place behind the opcode
abbrev pub operands_at : ℕ → List Operand
operands_at opcode = operands_of (modes_at opcode)

-- An instruction is its opcode and the bytes that its operands take.
unfoldable pub length_of : ℕ → ℕ
length_of opcode = 1 + bytes_of (operands_at opcode)

-- a name without its blanks
abbrev pub letters : List ℕ → List ℕ
letters [] = []
letters (c ∷ cs) = cond (c == (code " ")) (letters cs) (c ∷ letters cs)

-- each operand with the bytes that it takes, a comma and a blank between two
abbrev pub joined : List Operand → List ℕ → List ℕ
joined [] bytes = []
joined (o ∷ []) bytes = text_at o.mode bytes o.at
joined (o ∷ p ∷ os) bytes = text_at o.mode bytes o.at ++ text ", " ++ joined (p ∷ os) bytes

-- the operands behind a blank; nothing where there are none
abbrev pub operands_text : List Operand → List ℕ → List ℕ
operands_text [] bytes = []
operands_text (o ∷ os) bytes = text " " ++ joined (o ∷ os) bytes

-- The name and the operands.
unfoldable pub instruction_text : ℕ → List ℕ → List ℕ
instruction_text opcode bytes = letters (data_of opcode).name ++ operands_text (operands_at opcode) bytes

-- Fewer bytes than the instruction has: the opcode itself may be missing.
abbrev pub is_cut : List ℕ → Bool
is_cut [] = true
is_cut (opcode ∷ operands) = nat_lt (length operands + 1) (length_of opcode)

-- Refused exactly if there are fewer bytes than the instruction has. Spare bytes are ignored.
abbrev pub listed_of : List ℕ → Wanted
listed_of [] = refuses Operands
listed_of (opcode ∷ operands) =
    cond (is_cut (opcode ∷ operands)) (refuses Operands) (says (instruction_text opcode operands))
