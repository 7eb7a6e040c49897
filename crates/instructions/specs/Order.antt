-- The order of reads and stores in a step: all reads come first, but for DBNZ on memory, which stores before it reads its displacement.
-- Assumes nothing.
use Rattle.std.specs.Prelude.{ℕ, ◌≡◌, refl, false, eqb}
use Rattle.memory.specs.Access.{Access, then}
use Rattle.memory.specs.Access.Access.{done, read_at, store_at}
use Rattle.memory.specs.Words.{next_of}
use Rattle.signed.specs.Displacement.{target_of}
use Rattle.processor.specs.Record.{with_pc, minus, produced}
use Rattle.processor.specs.declared.Processor.{Processor}
use Rattle.editions.specs.declared.Edition.{Edition}
use Rattle.modes.specs.Addresses.{onward}
use Rattle.modes.specs.Branches.{branched}
use Rattle.modes.specs.Modes.{fetch}
use Rattle.instructions.specs.Rows.{rows}
use Rattle.instructions.specs.Effects.{effect_of}
use Rattle.instructions.specs.Step.{commit_of, branch_of, read_for, begin_of, made_of, finish_of, step_of}
use Rattle.instructions.specs.declared.Operands.{Operands}

-- nothing is read
abbrev pub OnlyStores : {R : Type 0} → Access R → Type 0
OnlyStores (done x) = Unit
OnlyStores (read_at a p) = ⊥
OnlyStores (store_at a byte p) = OnlyStores p

-- All reads come before all stores.
abbrev pub ReadsFirst : {R : Type 0} → Access R → Type 0
ReadsFirst (done x) = Unit
ReadsFirst (read_at a p) = (byte : ℕ) → ReadsFirst (p byte)
ReadsFirst (store_at a byte p) = OnlyStores p

-- what follows the opcode in a step
abbrev pub after_opcode : Edition → Processor → ℕ → Access Processor
after_opcode edition cpu opcode = then (read_for edition (produced (onward cpu) opcode)) (λ b. finish_of (made_of b))

-- A step reads the opcode at PC, and then it does what follows.
pub opcode_first : (edition : Edition) (cpu : Processor) → step_of edition cpu ≡ read_at cpu.pc (after_opcode edition cpu)
unfolding step_of begin_of fetch then
opcode_first edition cpu = refl

-- DBNZ d,rel where it branches: the byte less one is stored, and then the displacement at PC is read.
pub dbnz_stores_first : (o : Operands) → eqb (minus o.low 1) 0 ≡ false
    → finish_of (made_of (record { opcode = 0x6E; operands = o }))
    ≡ store_at o.at (minus o.low 1)
    (read_at o.cpu.pc (λ byte. done (with_pc (target_of (next_of o.cpu.pc) byte) (onward o.cpu))))
unfolding rows effect_of finish_of commit_of branch_of branched fetch then
dbnz_stores_first o e = rw e
