-- How the code cuts the table: 32 columns of eight rows. The definition of the instructions does not rest on this page.
use Rattle.std.specs.Prelude.{◌≡◌, ℕ, ◌+◌, ◌*◌, ◌%◌, Bool, false, cond, not, [], ◌∷◌, ◌==◌, slice_index_or}
use Rattle.laws.specs.Lent.{Lent}
use Rattle.memory.specs.Access.{Access, then}
use Rattle.memory.specs.Access.Access.{done, read_at}
use Rattle.editions.specs.declared.Edition.{Edition}
use Rattle.editions.specs.declared.Edition.TheVariants.{First}
use Rattle.psw.specs.declared.ProgramStatusWord.{ProgramStatusWord}
use Rattle.processor.specs.Record.{word_of}
use Rattle.processor.specs.Words.{produced_word}
use Rattle.processor.specs.declared.Processor.{Processor}
use Rattle.modes.specs.declared.Addressed.{Addressed}
use Rattle.instructions.specs.Rows.{Operation, row_of}
use Rattle.instructions.specs.Rows.Operation.{nop, or1, or1_n, and1, and1_n, eor1, load_c, decw, incw, cmpw, addw, subw, load_ya}
use Rattle.instructions.specs.Rows.Mode.{direct_word}
use Rattle.instructions.specs.Families.{pair_group}
use Rattle.instructions.specs.Gather.{operands, target, loaded, gather_of}
use Rattle.instructions.specs.Effects.{effect_of, into_word}
use Rattle.instructions.specs.Step.{finish_of}
use Rattle.instructions.specs.declared.Operands.{Operands}
use Rattle.instructions.specs.declared.Stores.TheVariants.{Byte}
use Rattle.registers.specs.Flat.{record_of}
use Rattle.registers.specs.declared.Registers.{Registers}
use Rattle.cells.specs.Cells.{Performs}

-- What is read, and what an operation makes of it, with its stores and its branch. Most operations do not ask for the opcode.
abbrev pub works : Access Operands → Operation → ℕ → Access Processor
works gathered operation opcode = then gathered (λ o. finish_of (effect_of operation opcode o))

-- What the row of an opcode does once the opcode has been read, with PC behind it.
abbrev pub row_does : Edition → ℕ → Processor → Access Processor
row_does edition opcode cpu = works (gather_of edition (row_of opcode).mode opcode cpu) (row_of opcode).operation opcode

-- A column is the opcode's low five bits, a row its top three.
abbrev pub opcode_at : ℕ → ℕ → ℕ
opcode_at column row = row * 32 + column

-- What a function promises that takes such an opcode: its row is done. Where it is told no edition, it is so in both.
abbrev pub Does-in : Edition → ℕ → ℕ → Registers → Lent → Registers → Type 0
Does-in edition column row cpu cells r = Performs (row_does edition (opcode_at column row) (record_of cpu)) cells (record_of r)

abbrev pub Follows : ℕ → ℕ → Registers → Lent → Registers → Type 0
Follows column row cpu cells r = (edition : Edition) → Does-in edition column row cpu cells r

-- The same of an opcode that neither reads nor stores.
abbrev pub Becomes : ℕ → ℕ → Registers → Registers → Type 0
Becomes column row cpu r = (edition : Edition) → row_does edition (opcode_at column row) (record_of cpu) ≡ done (record_of r)

-- ---- parts of columns

-- What a function leaves that works on registers alone: the registers are those that an operation makes of these two bytes, wherever they
-- were read.
abbrev pub Leaves : Operation → Registers → ℕ → ℕ → Registers → Type 0
Leaves operation cpu low high r =
    (opcode at next : ℕ) → record_of r ≡ (effect_of operation opcode (operands (record_of cpu) at next low high)).cpu

-- Where the operation stores a byte, that stands in z.
abbrev pub StoresByte : Operation → Registers → ℕ → ℕ → Registers → Type 0
StoresByte operation cpu low high r =
    (opcode at : ℕ) → (effect_of operation opcode (operands (record_of cpu) at 0 low high)).stores ≡ Byte at r.z

-- A source with the target at an address, and X with a byte at one: what is left to do once the operand bytes have been read.
abbrev pub paired : ℕ → ℕ → ℕ → Processor → Access Processor
paired row at source cpu =
    works (read_at at (λ target. done (operands cpu at 0 source target))) (pair_group row) 0

abbrev pub moved : ℕ → Addressed → Access Processor
moved row found = works (cond (row == 6) (target found) (loaded found)) (pair_group row) 0

-- CBNE at an address that a mode finds.
abbrev pub compared_at : Access Addressed → Operation → Access Processor
compared_at find operation = works (then find loaded) operation 0

-- DECW and INCW: a number is added to the word.
abbrev pub word_stepped : ℕ → Processor → Access Processor
word_stepped by cpu =
    then (gather_of First direct_word 0 cpu)
    (λ o. finish_of (into_word o (produced_word o.cpu ((word_of o.low o.high + by) % 65536))))

-- the operations of Mb's column that change C, those of the words' column that change YA, by the row
abbrev pub carry_group : ℕ → Operation
carry_group row = slice_index_or (or1 ∷ or1_n ∷ and1 ∷ and1_n ∷ eor1 ∷ load_c ∷ []) row nop

abbrev pub word_group : ℕ → Operation
word_group row = slice_index_or (decw ∷ incw ∷ cmpw ∷ addw ∷ subw ∷ load_ya ∷ []) row nop

-- whether a branch by a flag is taken, by the row
abbrev pub branch_flag : ℕ → ProgramStatusWord → Bool
branch_flag row psw =
    slice_index_or (not psw.n ∷ psw.n ∷ not psw.v ∷ psw.v ∷ not psw.c ∷ psw.c ∷ not psw.z ∷ psw.z ∷ []) row false
