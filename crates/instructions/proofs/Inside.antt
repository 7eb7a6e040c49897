-- A step stays inside the memory and leaves a record that fits: its reads do, and so do the stores and the branch of the effect made of them.
-- Assumes nothing.
use Prim.Native.Nat.{ℕ, ◌/◌, ◌%◌, ◌<◌}
use mathlib.Core.Bool.{Bool, true, false, cond}
use native.Mathlib.Omega.{arith}
use lib.Dec.{ltb}
use Rattle.processor.specs.Record.{with_pc}
use Rattle.processor.specs.declared.Processor.{Processor}
use Rattle.editions.specs.declared.Edition.{Edition}
use Rattle.modes.specs.Branches.{branched}
use Rattle.modes.specs.Stack.{push, push_word, called}
use Rattle.instructions.specs.Rows.{row_of}
use Rattle.instructions.specs.Step.{commit_of, branch_of, read_for, begin_of, finish_of, step_of}
use Rattle.instructions.specs.Inside.{Fits}
use Rattle.instructions.specs.declared.Begun.{Begun}
use Rattle.instructions.specs.declared.Effect.{Effect}
use Rattle.instructions.specs.declared.Stores.{Stores}
use Rattle.instructions.specs.declared.Stores.TheVariants.{Nothing, Byte, Word, Push, Call, Break}
use Rattle.instructions.proofs.Within.{Within, follow}
use Rattle.instructions.proofs.Within.Within.{ends, stores}
use Rattle.instructions.proofs.Parts.{below_65536, below_256, in_stack, fetched}
use Rattle.instructions.proofs.Gathered.{Gathered, gathered}
use Rattle.instructions.proofs.Bounds.{Widths}
use Rattle.instructions.proofs.Made.{Kept, Ready, made}

-- ---- the stores, and then the displacement

fits : (cpu : Processor) → Widths cpu → Fits cpu
fits cpu p = record { a = p.0; x = p.1; y = p.2; sp = p.3; pc = p.4 }

goes_to : {cpu : Processor} {pc : ℕ} → Fits cpu → pc < 65536 → Fits (with_pc pc cpu)
goes_to c h = record { a = c.a; x = c.x; y = c.y; sp = c.sp; pc = h }

pushed : (byte : ℕ) → byte < 256 → (cpu : Processor) → Fits cpu → Within Fits (push byte cpu)
unfolding push
pushed byte b cpu c = stores (in_stack _ c.sp) b (ends (record { a = c.a; x = c.x; y = c.y; sp = below_256 _; pc = c.pc }))

pushed_word : (word : ℕ) → word < 65536 → (cpu : Processor) → Fits cpu → Within Fits (push_word word cpu)
unfolding push_word
pushed_word word h cpu c = follow (pushed (word / 256) (omega arith) cpu c) (pushed (word % 256) (below_256 word))

committed : (s : Stores) (cpu : Processor) → Kept s → Fits cpu → Within Fits (commit_of s cpu)
unfolding commit_of called
committed Nothing cpu k c = ends c
committed (Byte at byte) cpu k c = stores k.0 k.1 (ends c)
committed (Word at low next high) cpu k c = stores k.0 k.1 (stores k.2 k.3 (ends c))
committed (Push byte) cpu k c = pushed byte k cpu c
committed (Call target) cpu k c = follow (pushed_word cpu.pc c.pc cpu c) (λ d f. ends (goes_to f k))
committed (Break byte target) cpu k c =
    follow (pushed_word cpu.pc c.pc cpu c) (λ d f. follow (pushed byte k.0 d f) (λ e h. ends (goes_to h k.1)))

in_16_bits : (t : Bool) (m n : ℕ) → cond t (m % 65536) (n % 65536) < 65536
in_16_bits true m n = below_65536 m
in_16_bits false m n = below_65536 n

displaced : (taken : Bool) (cpu : Processor) → Fits cpu → Within Fits (branch_of taken cpu)
unfolding branch_of branched
displaced true cpu c = follow (fetched c) (λ f b. ends (goes_to b.cpu (in_16_bits (ltb f.byte 128) _ _)))
displaced false cpu c = ends c

finished : (e : Effect) → Ready e → Within Fits (finish_of e)
unfolding finish_of
finished e r = follow (committed e.stores e.cpu r.1 (fits e.cpu r.0)) (displaced e.taken)

-- ---- the whole step

record Read (b : Begun) : Type 0 where
  opcode : b.opcode < 256
  operands : Gathered b.operands

module _ (edition : Edition) where
  begun : {cpu : Processor} → Fits cpu → Within Read (begin_of edition cpu)
  unfolding begin_of read_for
  begun c =
      follow (fetched c)
      (λ opcode f. follow (gathered edition (row_of opcode.byte).mode opcode.byte f.cpu) (λ o g. ends (record { opcode = f.byte; operands = g })))

  pub step_within : (cpu : Processor) → Fits cpu → Within Fits (step_of edition cpu)
  unfolding step_of
  step_within cpu c = follow (begun c) (λ b r. finished _ (made b.opcode r.opcode r.operands (row_of b.opcode).operation))
