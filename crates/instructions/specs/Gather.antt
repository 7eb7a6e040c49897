-- What each mode reads, and in which order: first what stands behind the opcode, then a pointer, then data, its low byte
-- before its high one, and a vector last.
use Rattle.std.specs.Prelude.{ℕ, ◌+◌, ◌-◌, ◌*◌, ◌/◌, ◌^◌}
use Rattle.memory.specs.Access.{Access, then}
use Rattle.memory.specs.Access.Access.{done, read_at}
use Rattle.memory.specs.Words.{read_word}
use Rattle.processor.specs.declared.Processor.{Processor}
use Rattle.processor.specs.declared.Produced.{Produced}
use Rattle.editions.specs.declared.Edition.{Edition}
use Rattle.modes.specs.Modes as mode
use Rattle.modes.specs.Stack.{pull, pull_word}
use Rattle.modes.specs.declared.Addressed.{Addressed}
use Rattle.instructions.specs.Rows.{Mode}
use Rattle.instructions.specs.Rows.Mode.{implied, immediate, direct, direct_x, direct_y, absolute, absolute_x, absolute_y, at_x, pointer_x, pointer_y, to_direct, to_direct_x, to_direct_y, to_absolute, to_absolute_x, to_absolute_y, to_x, to_pointer_x, to_pointer_y, direct_direct, direct_immediate, at_x_at_y, direct_to_direct, immediate_to_direct, direct_word, to_direct_word, memory_bit, word, word_at_x, upper_page, table_vector, break_vector, pulled, pulled_word, pulled_three}
use Rattle.instructions.specs.declared.Operands.{Operands}

abbrev pub operands : Processor → ℕ → ℕ → ℕ → ℕ → Operands
operands cpu at next low high = record { cpu = cpu; at = at; next = next; low = low; high = high }

-- a byte alone, an address alone, an address and the byte there
abbrev pub byte_only : Produced → Access Operands
byte_only p = done (operands p.cpu 0 0 p.byte 0)

abbrev pub target : Addressed → Access Operands
target a = done (operands a.cpu a.at 0 0 0)

unfoldable pub loaded : Addressed → Access Operands
loaded a = read_at a.at (λ byte. done (operands a.cpu a.at 0 byte 0))

-- a source and a target, both read, and a source alone
unfoldable pub both_loaded : ℕ → Addressed → Access Operands
both_loaded source t = read_at source (λ low. read_at t.at (λ high. done (operands t.cpu t.at 0 low high)))

unfoldable pub source_loaded : ℕ → Addressed → Access Operands
source_loaded source t = read_at source (λ low. done (operands t.cpu t.at 0 low 0))

-- the word at a vector
unfoldable pub vector : ℕ → Processor → Access Operands
vector at cpu = then (read_word at) (λ w. done (operands cpu w 0 0 0))

-- The edition is asked for the second byte of a pointer only.
module _ (edition : Edition) where
  unfoldable pub gather_of : Mode → ℕ → Processor → Access Operands
  gather_of implied opcode cpu = done (operands cpu 0 0 0 0)
  gather_of immediate opcode cpu = then (mode.fetch cpu) byte_only
  gather_of direct opcode cpu = then (mode.direct 0 cpu) loaded
  gather_of direct_x opcode cpu = then (mode.direct cpu.x cpu) loaded
  gather_of direct_y opcode cpu = then (mode.direct cpu.y cpu) loaded
  gather_of absolute opcode cpu = then (mode.absolute 0 cpu) loaded
  gather_of absolute_x opcode cpu = then (mode.absolute cpu.x cpu) loaded
  gather_of absolute_y opcode cpu = then (mode.absolute cpu.y cpu) loaded
  gather_of at_x opcode cpu = loaded (mode.indirect cpu.x cpu)
  gather_of pointer_x opcode cpu = then (mode.pointer_x edition cpu) loaded
  gather_of pointer_y opcode cpu = then (mode.pointer_y edition cpu) loaded
  -- A plain store does not read its target.
  gather_of to_direct opcode cpu = then (mode.direct 0 cpu) target
  gather_of to_direct_x opcode cpu = then (mode.direct cpu.x cpu) target
  gather_of to_direct_y opcode cpu = then (mode.direct cpu.y cpu) target
  gather_of to_absolute opcode cpu = then (mode.absolute 0 cpu) target
  gather_of to_absolute_x opcode cpu = then (mode.absolute cpu.x cpu) target
  gather_of to_absolute_y opcode cpu = then (mode.absolute cpu.y cpu) target
  gather_of to_x opcode cpu = target (mode.indirect cpu.x cpu)
  gather_of to_pointer_x opcode cpu = then (mode.pointer_x edition cpu) target
  gather_of to_pointer_y opcode cpu = then (mode.pointer_y edition cpu) target
  -- Two operands: what is the source comes first, be it an address, a byte behind the opcode or (Y).
  gather_of direct_direct opcode cpu = then (mode.direct 0 cpu) (λ s. then (mode.direct 0 s.cpu) (both_loaded s.at))
  gather_of direct_to_direct opcode cpu = then (mode.direct 0 cpu) (λ s. then (mode.direct 0 s.cpu) (source_loaded s.at))
  gather_of direct_immediate opcode cpu =
      then (mode.fetch cpu)
      (λ i. then (mode.direct 0 i.cpu) (λ t. read_at t.at (λ high. done (operands t.cpu t.at 0 i.byte high))))
  gather_of immediate_to_direct opcode cpu =
      then (mode.fetch cpu) (λ i. then (mode.direct 0 i.cpu) (λ t. done (operands t.cpu t.at 0 i.byte 0)))
  gather_of at_x_at_y opcode cpu = both_loaded (mode.indirect cpu.y cpu).at (mode.indirect cpu.x cpu)
  gather_of direct_word opcode cpu =
      then (mode.direct_word cpu)
      (λ d. read_at d.low (λ low. read_at d.high (λ high. done (operands d.cpu d.low d.high low high))))
  gather_of to_direct_word opcode cpu = then (mode.direct_word cpu) (λ d. done (operands d.cpu d.low d.high 0 0))
  -- Mb names a bit of a byte: both, the bit by its value.
  gather_of memory_bit opcode cpu =
      then (mode.bit_operand cpu) (λ m. read_at m.at (λ byte. done (operands m.cpu m.at 0 byte (2 ^ m.bit))))
  -- Where to go: an operand word, the word at one, a place of the last page (PCALL), a word of the table below 0xFFE0 (TCALL, BRK).
  gather_of word opcode cpu = then (mode.absolute 0 cpu) target
  gather_of word_at_x opcode cpu = then (mode.absolute_pointer cpu) target
  gather_of upper_page opcode cpu = then (mode.fetch cpu) (λ f. done (operands f.cpu (0xFF00 + f.byte) 0 0 0))
  gather_of table_vector opcode cpu = vector (0xFFDE - opcode / 16 * 2) cpu
  gather_of break_vector opcode cpu = vector 0xFFDE cpu
  gather_of pulled opcode cpu = then (pull cpu) byte_only
  gather_of pulled_word opcode cpu = then (pull_word cpu) target
  gather_of pulled_three opcode cpu =
      then (pull cpu) (λ p. then (pull_word p.cpu) (λ w. done (operands w.cpu w.at 0 p.byte 0)))
