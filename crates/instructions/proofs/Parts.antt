-- The parts of modes read inside the memory, find addresses inside it and leave a record that fits:
-- every address is a sum that wraps, two bytes, or an offset below 256 from page 0 or 1.
-- Assumes nothing.
use Prim.Native.Nat.{ℕ, ◌+◌, ◌*◌, ◌%◌, ◌<◌}
use mathlib.Core.Bool.{Bool, true, false, cond}
use native.Mathlib.Omega.{arith}
use Rattle.memory.specs.Words.{read_word}
use Rattle.processor.specs.declared.Processor.{Processor}
use Rattle.processor.specs.declared.Produced.{Produced}
use Rattle.editions.specs.Editions.{second_at}
use Rattle.editions.specs.declared.Edition.{Edition}
use Rattle.editions.specs.declared.Edition.TheVariants.{First, Second}
use Rattle.modes.specs.Addresses.{onward}
use Rattle.modes.specs.Modes.{fetch, fetch_word, direct, direct_word, indirect, pointed, pointer_x, pointer_y, absolute, absolute_pointer, bit_operand}
use Rattle.modes.specs.Stack.{raised, pull, pull_word}
use Rattle.modes.specs.declared.Addressed.{Addressed}
use Rattle.modes.specs.declared.WordAddressed.{WordAddressed}
use Rattle.modes.specs.declared.BitAddressed.{BitAddressed}
use Rattle.instructions.specs.Inside.{Fits}
use Rattle.instructions.proofs.Within.{Within, follow}
use Rattle.instructions.proofs.Within.Within.{ends, reads}

-- ---- numbers

pub below_65536 : (n : ℕ) → n % 65536 < 65536
below_65536 n = omega arith

pub below_256 : (n : ℕ) → n % 256 < 256
below_256 n = omega arith

two_bytes : (low high : ℕ) → low < 256 → high < 256 → high * 256 + low < 65536
two_bytes low high l h = omega arith

pub in_stack : (sp : ℕ) → sp < 256 → 0x100 + sp < 65536
in_stack sp h = omega arith

in_page_lem : (p : Bool) (n : ℕ) → cond p 0x100 0 + n % 256 < 65536
in_page_lem true n = omega arith
in_page_lem false n = omega arith

-- ---- a record that fits, and with it a byte, an address, or two

pub record HasByte (f : Produced) : Type 0 where
  pub cpu : Fits f.cpu
  pub byte : f.byte < 256

pub record HasAddress (d : Addressed) : Type 0 where
  pub cpu : Fits d.cpu
  pub at : d.at < 65536

pub record HasTwo (d : WordAddressed) : Type 0 where
  pub cpu : Fits d.cpu
  pub low : d.low < 65536
  pub high : d.high < 65536

pub record HasBit (d : BitAddressed) : Type 0 where
  pub cpu : Fits d.cpu
  pub at : d.at < 65536
  pub bit : d.bit < 8

-- PC goes on, SP rises
moves_on : {cpu : Processor} → Fits cpu → Fits (onward cpu)
moves_on c = record { a = c.a; x = c.x; y = c.y; sp = c.sp; pc = below_65536 _ }

rises : {cpu : Processor} → Fits cpu → Fits (raised cpu)
rises c = record { a = c.a; x = c.x; y = c.y; sp = below_256 _; pc = c.pc }

-- ---- operand bytes, the stack, words

pub fetched : {cpu : Processor} → Fits cpu → Within HasByte (fetch cpu)
unfolding fetch
fetched c = reads c.pc (λ byte b. ends (record { cpu = moves_on c; byte = b }))

fetched_word : {cpu : Processor} → Fits cpu → Within HasAddress (fetch_word cpu)
unfolding fetch_word
fetched_word c = follow (fetched c) (λ low l. follow (fetched l.cpu) (λ high h. ends (record { cpu = h.cpu; at = omega arith })))

pub popped : {cpu : Processor} → Fits cpu → Within HasByte (pull cpu)
unfolding pull
popped c = reads (in_stack _ (below_256 _)) (λ byte b. ends (record { cpu = rises c; byte = b }))

pub popped_word : {cpu : Processor} → Fits cpu → Within HasAddress (pull_word cpu)
unfolding pull_word
popped_word c = follow (popped c) (λ low l. follow (popped l.cpu) (λ high h. ends (record { cpu = h.cpu; at = omega arith })))

pub word_at : (at : ℕ) → at < 65536 → Within (λ word. word < 65536) (read_word at)
unfolding read_word
word_at at h = reads h (λ low l. reads (below_65536 _) (λ high b. ends (two_bytes low high l b)))

-- ---- addresses

pub in_direct_lem : (index : ℕ) {cpu : Processor} → Fits cpu → Within HasAddress (direct index cpu)
unfolding direct
in_direct_lem index {cpu} c = follow (fetched c) (λ f b. ends (record { cpu = b.cpu; at = in_page_lem cpu.psw.p _ }))

pub in_direct_word : {cpu : Processor} → Fits cpu → Within HasTwo (direct_word cpu)
unfolding direct_word
in_direct_word {cpu} c = follow (fetched c) (λ f b. ends (record { cpu = b.cpu; low = in_page_lem cpu.psw.p _; high = in_page_lem cpu.psw.p _ }))

pub at_register : (register : ℕ) {cpu : Processor} → Fits cpu → HasAddress (indirect register cpu)
at_register register {cpu} c = record { cpu = c; at = in_page_lem cpu.psw.p _ }

pub in_absolute : (index : ℕ) {cpu : Processor} → Fits cpu → Within HasAddress (absolute index cpu)
unfolding absolute
in_absolute index c = follow (fetched_word c) (λ f d. ends (record { cpu = d.cpu; at = below_65536 _ }))

second_inside : (edition : Edition) (at : ℕ) → at < 65536 → second_at edition at < 65536
second_inside First at h = below_65536 _
second_inside Second at h = omega arith

by_pointer : (edition : Edition) (index : ℕ) (d : Addressed) → HasAddress d → Within HasAddress (pointed edition index d)
unfolding pointed
by_pointer edition index d h =
    reads h.at (λ low l. reads (second_inside edition d.at h.at) (λ high b. ends (record { cpu = h.cpu; at = below_65536 _ })))

pub by_pointer_x : (edition : Edition) {cpu : Processor} → Fits cpu → Within HasAddress (pointer_x edition cpu)
unfolding pointer_x
by_pointer_x edition c = follow (in_direct_lem _ c) (by_pointer edition _)

pub by_pointer_y : (edition : Edition) {cpu : Processor} → Fits cpu → Within HasAddress (pointer_y edition cpu)
unfolding pointer_y
by_pointer_y edition c = follow (in_direct_lem _ c) (by_pointer edition _)

pub by_absolute_pointer : {cpu : Processor} → Fits cpu → Within HasAddress (absolute_pointer cpu)
unfolding absolute_pointer
by_absolute_pointer c = follow (in_absolute _ c) (λ a h. follow (word_at a.at h.at) (λ word w. ends (record { cpu = h.cpu; at = w })))

pub in_bits : {cpu : Processor} → Fits cpu → Within HasBit (bit_operand cpu)
unfolding bit_operand
in_bits c = follow (fetched_word c) (λ f d. ends (record { cpu = d.cpu; at = omega arith; bit = omega arith }))
