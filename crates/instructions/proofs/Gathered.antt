-- What a mode reads stays inside the memory, so do the addresses it hands on, and bytes are bytes: it is made of parts of which both hold.
-- Assumes nothing.
use Prim.Native.Nat.{ℕ, ◌<◌, ◌^◌}
use native.Mathlib.Omega.{arith}
use lib.Pow.{pow-lt}
use Rattle.memory.specs.Access.Access.{done}
use Rattle.processor.specs.declared.Processor.{Processor}
use Rattle.processor.specs.declared.Produced.{Produced}
use Rattle.editions.specs.declared.Edition.{Edition}
use Rattle.modes.specs.declared.Addressed.{Addressed}
use Rattle.instructions.specs.Rows.{Mode}
use Rattle.instructions.specs.Rows.Mode.{implied, immediate, direct, direct_x, direct_y, absolute, absolute_x, absolute_y, at_x, pointer_x, pointer_y, to_direct, to_direct_x, to_direct_y, to_absolute, to_absolute_x, to_absolute_y, to_x, to_pointer_x, to_pointer_y, direct_direct, direct_immediate, at_x_at_y, direct_to_direct, immediate_to_direct, direct_word, to_direct_word, memory_bit, word, word_at_x, upper_page, table_vector, break_vector, pulled, pulled_word, pulled_three}
use Rattle.instructions.specs.Gather.{operands, byte_only, target, loaded, both_loaded, source_loaded, vector, gather_of}
use Rattle.instructions.specs.Inside.{Fits}
use Rattle.instructions.specs.declared.Operands.{Operands}
use Rattle.instructions.proofs.Within.{Within, follow}
use Rattle.instructions.proofs.Within.Within.{ends, reads}
use Rattle.instructions.proofs.Parts.{HasByte, HasAddress, fetched, popped, popped_word, word_at, in_direct_lem, in_direct_word, at_register, in_absolute, by_pointer_x, by_pointer_y, by_absolute_pointer, in_bits}

-- what the later phases go by
pub record Gathered (o : Operands) : Type 0 where
  pub cpu : Fits o.cpu
  pub at : o.at < 65536
  pub next : o.next < 65536
  pub low : o.low < 256
  pub high : o.high < 256

-- ---- operands with one address

none : 0 < 65536
none = omega arith

no_byte : 0 < 256
no_byte = omega arith

power : {bit : ℕ} → bit < 8 → 2 ^ bit < 256
power h = pow-lt {j = 8} h

found : {cpu : Processor} {at low high : ℕ} → Fits cpu → at < 65536 → low < 256 → high < 256
    → Within Gathered (done (operands cpu at 0 low high))
found c h l b = ends (record { cpu = c; at = h; next = none; low = l; high = b })

only_byte : (f : Produced) → HasByte f → Within Gathered (byte_only f)
only_byte f b = found b.cpu none b.byte no_byte

only_address : (d : Addressed) → HasAddress d → Within Gathered (target d)
only_address d h = found h.cpu h.at no_byte no_byte

and_byte : (d : Addressed) → HasAddress d → Within Gathered (loaded d)
unfolding loaded
and_byte d h = reads h.at (λ byte b. found h.cpu h.at b no_byte)

and_both : (source : ℕ) → source < 65536 → (d : Addressed) → HasAddress d → Within Gathered (both_loaded source d)
unfolding both_loaded
and_both source s d h = reads s (λ low l. reads h.at (λ high b. found h.cpu h.at l b))

and_source : (source : ℕ) → source < 65536 → (d : Addressed) → HasAddress d → Within Gathered (source_loaded source d)
unfolding source_loaded
and_source source s d h = reads s (λ low l. found h.cpu h.at l no_byte)

by_vector : (at : ℕ) → at < 65536 → {cpu : Processor} → Fits cpu → Within Gathered (vector at cpu)
unfolding vector
by_vector at h c = follow (word_at at h) (λ w h. found c h no_byte no_byte)

-- ---- the modes

module _ (edition : Edition) where
  pub gathered : (m : Mode) (opcode : ℕ) {cpu : Processor} → Fits cpu → Within Gathered (gather_of edition m opcode cpu)
  unfolding gather_of
  gathered implied opcode c = found c none no_byte no_byte
  gathered immediate opcode c = follow (fetched c) only_byte
  gathered direct opcode c = follow (in_direct_lem _ c) and_byte
  gathered direct_x opcode c = follow (in_direct_lem _ c) and_byte
  gathered direct_y opcode c = follow (in_direct_lem _ c) and_byte
  gathered absolute opcode c = follow (in_absolute _ c) and_byte
  gathered absolute_x opcode c = follow (in_absolute _ c) and_byte
  gathered absolute_y opcode c = follow (in_absolute _ c) and_byte
  gathered at_x opcode c = and_byte _ (at_register _ c)
  gathered pointer_x opcode c = follow (by_pointer_x edition c) and_byte
  gathered pointer_y opcode c = follow (by_pointer_y edition c) and_byte
  gathered to_direct opcode c = follow (in_direct_lem _ c) only_address
  gathered to_direct_x opcode c = follow (in_direct_lem _ c) only_address
  gathered to_direct_y opcode c = follow (in_direct_lem _ c) only_address
  gathered to_absolute opcode c = follow (in_absolute _ c) only_address
  gathered to_absolute_x opcode c = follow (in_absolute _ c) only_address
  gathered to_absolute_y opcode c = follow (in_absolute _ c) only_address
  gathered to_x opcode c = only_address _ (at_register _ c)
  gathered to_pointer_x opcode c = follow (by_pointer_x edition c) only_address
  gathered to_pointer_y opcode c = follow (by_pointer_y edition c) only_address
  gathered direct_direct opcode c = follow (in_direct_lem _ c) (λ s h. follow (in_direct_lem _ h.cpu) (and_both s.at h.at))
  gathered direct_to_direct opcode c = follow (in_direct_lem _ c) (λ s h. follow (in_direct_lem _ h.cpu) (and_source s.at h.at))
  gathered direct_immediate opcode c = follow (fetched c) (λ i b. follow (in_direct_lem _ b.cpu) (λ t h. reads h.at (λ high l. found h.cpu h.at b.byte l)))
  gathered immediate_to_direct opcode c = follow (fetched c) (λ i b. follow (in_direct_lem _ b.cpu) (λ t h. found h.cpu h.at b.byte no_byte))
  gathered at_x_at_y opcode {cpu} c = and_both _ (at_register cpu.y c).at _ (at_register cpu.x c)
  gathered direct_word opcode c =
      follow (in_direct_word c)
      (λ d h. reads h.low (λ low l. reads h.high (λ high b. ends (record { cpu = h.cpu; at = h.low; next = h.high; low = l; high = b }))))
  gathered to_direct_word opcode c = follow (in_direct_word c) (λ d h. ends (record { cpu = h.cpu; at = h.low; next = h.high; low = no_byte; high = no_byte }))
  gathered memory_bit opcode c = follow (in_bits c) (λ m h. reads h.at (λ byte b. found h.cpu h.at b (power h.bit)))
  gathered word opcode c = follow (in_absolute _ c) only_address
  gathered word_at_x opcode c = follow (by_absolute_pointer c) only_address
  gathered upper_page opcode c = follow (fetched c) (λ f b. found b.cpu (omega arith) no_byte no_byte)
  gathered table_vector opcode c = by_vector _ (omega arith) c
  gathered break_vector opcode c = by_vector _ (omega arith) c
  gathered pulled opcode c = follow (popped c) only_byte
  gathered pulled_word opcode c = follow (popped_word c) only_address
  gathered pulled_three opcode c = follow (popped c) (λ p b. follow (popped_word b.cpu) (λ w h. found h.cpu h.at b.byte no_byte))
