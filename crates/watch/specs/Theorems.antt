-- What is told of the device addresses: exactly which of them some step reads, and how that adds up over a run in parts.
--
-- The words: `devices_read edition budget cpu memory` is the number that a watched run answers where it is not refused; the contract of
-- `watch::run` says so of the code. `n / 2 ^ j % 2 ≡ 1`: the bit of value 2^j is set in n. `run_of edition m cpu w` is what a run of m steps
-- gives (`.result .regs`) and leaves (`.left`). `events (counted_step edition cpu) w`: the accesses of one step, in order. `ReadFirst k t`:
-- the list of accesses t has a read of k, and nothing before it there stores to k.
-- Assumes nothing.
use Prim.Native.Nat.{ℕ, zero, suc, ◌+◌, ◌-◌, ◌/◌, ◌%◌, ◌^◌, ◌<◌}
use Rattle.std.specs.Prelude.{◌≡◌, Bool, ◌||◌, ◌↔◌, get_or, Option, Some, None, Result, Ok, Err}
use Rattle.std.proofs.Math.Path.{refl}
use Rattle.std.proofs.Common.{sym, ◌∙◌, suc-add, arith, eqb-true, eq-eqb}
use Rattle.std.proofs.Math.Bool.{true, false, or-true}
use Rattle.std.proofs.lemmas.Bool.{false≢true}
use mathlib.Core.List.{List, append-nil}
use Rattle.std.proofs.Math.Nat.{zero-add, zero-div}
use Rattle.std.proofs.Math.Decide.{dec_lt}
use Rattle.std.specs.Int.Bits.{bit_or}
use Rattle.laws.specs.Bytes.{Bytes, bytes_zeros}
use Rattle.refusals.specs.declared.Refusal.{Refusal}
use Rattle.marks.specs.Maps.{is_marked}
use Rattle.marks.proofs.Laws.{either_bit}
use Rattle.memory.specs.World.{World, Sized, world}
use Rattle.memory.specs.Access.{perform, outcome}
use Rattle.waking.specs.States.{is_awake}
use Rattle.editions.specs.Editions.{edition_of}
use Rattle.editions.specs.declared.Edition.{Edition}
use Rattle.processor.specs.declared.Processor.{Processor}
use Rattle.runs.specs.Run.{run}
use Rattle.runs.specs.Trace.{events, trace}
use Rattle.runs.specs.Marks.{ReadFirst}
use Rattle.runs.proofs.Bitmaps.{Bitmaps, bytes_replay}
use Rattle.runs.proofs.Exact.{fresh, reads_exact}
use Rattle.runs.proofs.Run.{run_one}
use Rattle.runs.proofs.Trace.{replays, perform_unmapped}
use Rattle.engine.specs.Entry as entry
use Rattle.engine.specs.Entry.{refusal_of, counted_step, run_of, run_answer}
use Rattle.engine.specs.Provenance.{clear}
use Rattle.engine.specs.Theorems.{no_step, step_keeps}
use Rattle.engine.specs.declared.Ran.{Ran}
use Rattle.watch.specs.Bits.{is_set, low_bits, high_bits, or_assoc}
use Rattle.watch.specs.Calls.{watched, watching, answered, watched_run}
use Rattle.watch.specs.Devices.{alone, devices_of, devices_read}
use Rattle.watch.specs.declared.Watched.{Watched}

-- ---- the run itself

-- A run's answer, with the device addresses that its steps read beside it.
abbrev pub with_devices : ℕ → Result Ran Refusal → Result Watched Refusal
with_devices devices (Ok ran) = Ok (watched ran devices)
with_devices devices (Err refusal) = Err refusal

-- A watched run answers what the public run does, refusals included, with the device addresses beside it, and leaves the same.
pub answers_as_run : (number budget : ℕ) (cpu : Processor) (w : World)
    → let o = run_answer number budget cpu w in
    watched_run number budget cpu w ≡ outcome (with_devices (devices_read (edition_of number) budget cpu w.memory) o.result) o.left
answers_as_run number budget cpu w = go (refusal_of number w)
  where
    edition : Edition
    edition = edition_of number

    go : (r : Option Refusal)
        → let o = entry.answered r w (run_of edition budget cpu w) in
        answered r w (watching edition budget cpu w) ≡ outcome (with_devices (devices_read edition budget cpu w.memory) o.result) o.left
    go None = refl
    go (Some r) = refl

-- ---- runs in parts

module _ (edition : Edition) where
  -- A run of m + n reads what a run of m reads, and what one of n reads from the registers and the memory that the run of m left. These do
  -- not depend on the maps, so it is said of any world with that memory.
  pub devices_in_parts : (m n : ℕ) (cpu : Processor) (w : World)
      → let o = run_of edition m cpu w in
      devices_read edition (m + n) cpu w.memory
      ≡ bit_or (devices_read edition m cpu w.memory) (devices_read edition n o.result.regs o.left.memory)
  unfolding devices_read run
  devices_in_parts zero n cpu w = rw zero-add
  devices_in_parts (suc m) n cpu w =
      let o = perform (counted_step edition cpu) w in
      let one = (perform_unmapped (counted_step edition cpu) (world w.memory clear clear) w refl).0 in
      rw (suc-add, one.result, one.memory, devices_in_parts m n o.result.regs o.left)
      (sym (or_assoc (devices_of (alone edition cpu w.memory).left.reads) _ _))

  -- A record at rest takes no step, and so reads nothing.
  pub devices_at_rest : (n : ℕ) (cpu : Processor) (memory : List ℕ) → is_awake cpu.state ≡ false → devices_read edition n cpu memory ≡ 0
  unfolding devices_read
  devices_at_rest zero cpu memory rest = refl
  devices_at_rest (suc n) cpu memory rest = rw (no_step edition cpu (world memory clear clear) rest, devices_at_rest n cpu memory rest)

-- ---- one step

-- The sixteen bits are the marks of the sixteen addresses.
bit_is_mark : (map : List ℕ) (j : ℕ) → Bytes map → j < 16 → is_set (devices_of map) j ≡ is_marked map (240 + j)
bit_is_mark map j bytes h = go (dec_lt j 8)
  where
    go : Dec (j < 8) → is_set (devices_of map) j ≡ is_marked map (240 + j)
    go (yes q) =
        let byte : (240 + j) / 8 ≡ 30 = omega arith in
        let bit : (240 + j) % 8 ≡ j = omega arith in
        let low : devices_of map % 256 ≡ get_or map 30 0 = omega (arith, bytes 30) in
        rw (byte, bit) (low_bits (devices_of map) j q ∙ rw low)
    go (no q) =
        let byte : (240 + j) / 8 ≡ 31 = omega arith in
        let bit : (240 + j) % 8 ≡ j - 8 = omega arith in
        let high : devices_of map / 256 ≡ get_or map 31 0 = omega (arith, bytes 30) in
        rw (byte, bit) (high_bits (devices_of map) j (omega arith) ∙ rw high)

module _ (edition : Edition) (cpu : Processor) (w : World) (size : Sized w) where
  abbrev start : World
  start = world w.memory clear clear

  -- Alone, from clear maps, a step leaves a map of bytes,
  pub alone_bytes : Bytes (alone edition cpu w.memory).left.reads
  alone_bytes =
      let none : Bitmaps start = record { reads = bytes_zeros 8192; writes = bytes_zeros 8192 } in
      rw replays (bytes_replay (events (counted_step edition cpu) start) start none).reads

  -- which marks what it reads before it stores there.
  pub mark_told : (k : ℕ) → k < 65536
      → (is_marked (alone edition cpu w.memory).left.reads k ≡ true) ↔ ReadFirst k (events (counted_step edition cpu) w)
  unfolding trace
  mark_told k h =
      rw (run_one, append-nil, (perform_unmapped (counted_step edition cpu) start w refl).1) at
      (reads_exact (counted_step edition) 1 cpu start (fresh w.memory 8192 size.memory refl) k h)

  step_told : (j : ℕ) → j < 16
      → (is_set (devices_of (alone edition cpu w.memory).left.reads) j ≡ true) ↔ ReadFirst (240 + j) (events (counted_step edition cpu) w)
  step_told j h = rw (bit_is_mark (alone edition cpu w.memory).left.reads j alone_bytes h) (mark_told (240 + j) (omega arith))

-- ---- a run

-- Of some step of a run: the number of steps before it, and that its accesses, from what these have left, read the address before this step
-- stores there.
pub record SomeStepReads (edition : Edition) (budget : ℕ) (cpu : Processor) (w : World) (k : ℕ) : Type 0 where
  pub before : ℕ
  pub within : before < budget
  pub reads : let o = run_of edition before cpu w in ReadFirst k (events (counted_step edition o.result.regs) o.left)

module _ (edition : Edition) (j : ℕ) (h : j < 16) where
  told : (budget : ℕ) (cpu : Processor) (w : World) → Sized w → is_set (devices_read edition budget cpu w.memory) j ≡ true
      → SomeStepReads edition budget cpu w (240 + j)
  unfolding devices_read run
  told zero cpu w size e = absurd (false≢true (rw zero-div at e))
  told (suc n) cpu w size e =
      let o = perform (counted_step edition cpu) w in
      let one = (perform_unmapped (counted_step edition cpu) (world w.memory clear clear) w refl).0 in
      go _ refl (rw (either_bit, one.result, one.memory) at e)
      (told n o.result.regs o.left (step_keeps edition cpu w size).sized)
    where
      go : (b : Bool) → is_set (devices_of (alone edition cpu w.memory).left.reads) j ≡ b
          → let o = perform (counted_step edition cpu) w in
          (b || is_set (devices_read edition n o.result.regs o.left.memory) j) ≡ true
          → (is_set (devices_read edition n o.result.regs o.left.memory) j ≡ true
          → SomeStepReads edition n o.result.regs o.left (240 + j))
          → SomeStepReads edition (suc n) cpu w (240 + j)
      go true q e later = record { before = 0; within = omega arith; reads = (step_told edition cpu w size j h).0 q }
      go false q e later = let s = later e in record { before = suc s.before; within = omega (arith, s.within); reads = s.reads }

  shown : (budget : ℕ) (cpu : Processor) (w : World) → Sized w → (before : ℕ) → before < budget
      → let o = run_of edition before cpu w in ReadFirst (240 + j) (events (counted_step edition o.result.regs) o.left)
      → is_set (devices_read edition budget cpu w.memory) j ≡ true
  unfolding devices_read run
  shown zero cpu w size before within reads = absurd (omega arith)
  shown (suc n) cpu w size zero within reads = rw (either_bit, (step_told edition cpu w size j h).1 reads)
  shown (suc n) cpu w size (suc before) within reads =
      let o = perform (counted_step edition cpu) w in
      let one = (perform_unmapped (counted_step edition cpu) (world w.memory clear clear) w refl).0 in
      let later = shown n o.result.regs o.left (step_keeps edition cpu w size).sized before (omega arith) reads in
      rw (either_bit, one.result, one.memory, later, or-true)

  -- On memory and maps of the right lengths the bit of value 2^j, of the sixteen, is set exactly when some step of the run reads 00F0 + j
  -- before that step stores there, whatever the steps before it stored.
  pub bit_told : (budget : ℕ) (cpu : Processor) (w : World) → Sized w
      → (devices_read edition budget cpu w.memory / 2 ^ j % 2 ≡ 1) ↔ SomeStepReads edition budget cpu w (240 + j)
  bit_told budget cpu w size =
      (λ e. told budget cpu w size (eq-eqb _ _ e), λ s. eqb-true _ _ (shown budget cpu w size s.before s.within s.reads))
