-- The stack lies in page 1. SP points at the free place: a push fills it and moves down, a pull moves up and reads. Of a word the high
-- byte is pushed first.
use Rattle.std.specs.Prelude.{ℕ, ◌+◌, ◌/◌, ◌%◌}
use Rattle.memory.specs.Access.{Access, then}
use Rattle.memory.specs.Access.Access.{done, read_at, store_at}
use Rattle.processor.specs.Record.{with_sp, with_pc, word_of, minus, produced}
use Rattle.processor.specs.declared.Processor.{Processor}
use Rattle.processor.specs.declared.Produced.{Produced}
use Rattle.modes.specs.Modes.{addressed}
use Rattle.modes.specs.declared.Addressed.{Addressed}

unfoldable pub push : ℕ → Processor → Access Processor
push byte cpu = store_at (0x100 + cpu.sp) byte (done (with_sp (minus cpu.sp 1) cpu))

unfoldable pub push_word : ℕ → Processor → Access Processor
push_word word cpu = then (push (word / 256) cpu) (push (word % 256))

-- SP increased, in eight bits
abbrev pub raised : Processor → Processor
raised cpu = with_sp ((cpu.sp + 1) % 256) cpu

unfoldable pub pull : Processor → Access Produced
pull cpu = read_at (0x100 + (raised cpu).sp) (λ byte. done (produced (raised cpu) byte))

unfoldable pub pull_word : Processor → Access Addressed
pull_word cpu = then (pull cpu) (λ low. then (pull low.cpu) (λ high. done (addressed high.cpu (word_of low.byte high.byte))))

-- Calls push the return PC.
unfoldable pub called : ℕ → Processor → Access Processor
called target cpu = then (push_word cpu.pc cpu) (λ pushed. done (with_pc target pushed))
