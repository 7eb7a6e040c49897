-- Address modes: what each reads, in order, and the address it finds. Operand bytes stand at PC.
use Rattle.std.specs.Prelude.{ℕ, ◌^◌}
use Rattle.memory.specs.Access.{Access, then}
use Rattle.memory.specs.Access.Access.{done, read_at}
use Rattle.memory.specs.Words.{read_word}
use Rattle.editions.specs.Editions.{second_at}
use Rattle.editions.specs.declared.Edition.{Edition}
use Rattle.psw.specs.Status.{bit_of}
use Rattle.processor.specs.Record.{word_of, produced}
use Rattle.processor.specs.declared.Processor.{Processor}
use Rattle.processor.specs.declared.Produced.{Produced}
use Rattle.modes.specs.Addresses.{direct_at, absolute_at, bit_address, bit_number, onward}
use Rattle.modes.specs.declared.Addressed.{Addressed}
use Rattle.modes.specs.declared.WordAddressed.{WordAddressed}
use Rattle.modes.specs.declared.BitAddressed.{BitAddressed}
use Rattle.modes.specs.declared.BitRead.{BitRead}

abbrev pub addressed : Processor → ℕ → Addressed
addressed cpu at = record { cpu = cpu; at = at }

-- the byte at PC, with PC behind it
unfoldable pub fetch : Processor → Access Produced
fetch cpu = read_at cpu.pc (λ byte. done (produced (onward cpu) byte))

-- the word at PC, low byte first, with PC behind it
unfoldable pub fetch_word : Processor → Access Addressed
fetch_word cpu = then (fetch cpu) (λ low. then (fetch low.cpu) (λ high. done (addressed high.cpu (word_of low.byte high.byte))))

-- Immediate: the operand byte itself. Nothing is read yet. No instruction uses it: the source prints it.
abbrev pub immediate : Processor → Addressed
immediate cpu = addressed (onward cpu) cpu.pc

-- d, d+X, d+Y: the operand byte plus an index, in the direct page.
unfoldable pub direct : ℕ → Processor → Access Addressed
direct index cpu = then (fetch cpu) (λ f. done (addressed f.cpu (direct_at cpu.psw f.byte index)))

-- A word in the direct page wraps inside it.
unfoldable pub direct_word : Processor → Access WordAddressed
direct_word cpu =
    then (fetch cpu)
    (λ f. done (record { cpu = f.cpu; low = direct_at cpu.psw f.byte 0; high = direct_at cpu.psw f.byte 1 }))

-- (X) and (Y): the register in the direct page.
abbrev pub indirect : ℕ → Processor → Addressed
indirect register cpu = addressed cpu (direct_at cpu.psw register 0)

-- the pointer at an address, plus an index: the edition says where its second byte stands
unfoldable pub pointed : Edition → ℕ → Addressed → Access Addressed
pointed edition index d =
    read_at d.at
    (λ low. read_at (second_at edition d.at) (λ high. done (addressed d.cpu (absolute_at (word_of low high) index))))

-- [d+X]: the pointer at the indexed address. [d]+Y: the pointer at the direct address, plus Y.
unfoldable pub pointer_x : Edition → Processor → Access Addressed
pointer_x edition cpu = then (direct cpu.x cpu) (pointed edition 0)

unfoldable pub pointer_y : Edition → Processor → Access Addressed
pointer_y edition cpu = then (direct 0 cpu) (pointed edition cpu.y)

-- !a, !a+X, !a+Y: the operand word plus an index.
unfoldable pub absolute : ℕ → Processor → Access Addressed
absolute index cpu = then (fetch_word cpu) (λ f. done (addressed f.cpu (absolute_at f.at index)))

-- [!a+X]: the word at a+X. It has no edition: its second byte stands at the next address, also behind the end of a page.
unfoldable pub absolute_pointer : Processor → Access Addressed
absolute_pointer cpu = then (absolute cpu.x cpu) (λ a. then (read_word a.at) (λ word. done (addressed a.cpu word)))

-- Mb: the address and the bit's number, both in the operand word.
unfoldable pub bit_operand : Processor → Access BitAddressed
bit_operand cpu =
    then (fetch_word cpu) (λ f. done (record { cpu = f.cpu; at = bit_address f.at; bit = bit_number f.at }))

-- The bit that Mb names. No instruction uses it: the source prints it.
unfoldable pub bit_read : Processor → Access BitRead
bit_read cpu = then (bit_operand cpu) (λ m. read_at m.at (λ byte. done (record { cpu = m.cpu; bit = bit_of (2 ^ m.bit) byte })))
