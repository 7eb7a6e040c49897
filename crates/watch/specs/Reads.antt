-- What is told of the device addresses, in the words in which it is asked: exactly which of them some step reads, at any place of the step.
-- That is what `bit_told` says, because no step reads an address for the first time after it has stored there.
--
-- The words: as in Theorems; `ReadIn k t`: the list of accesses t has a read of k. `Bytes w`: the memory holds bytes. `Fits cpu`: the
-- registers have their widths, eight bits and PC sixteen.
-- Assumes nothing.
use Prim.Native.Nat.{ℕ, zero, suc, ◌+◌, ◌/◌, ◌%◌, ◌^◌, ◌<◌}
use Rattle.std.specs.Prelude.{◌≡◌, Bool, List, [], ◌∷◌, ◌++◌, ◌↔◌, ◌⊎◌, eqb}
use Rattle.std.proofs.Math.Path.{refl}
use Rattle.std.proofs.Common.{ap, inl, inr, eqb-true}
use Rattle.std.proofs.Math.Bool.{true, false}
use Rattle.std.proofs.Math.Decide.{ℕ_discrete}
use Rattle.memory.specs.World.{World, Sized, byte_at, seen, kept}
use Rattle.memory.specs.Access.{Access, then, perform}
use Rattle.memory.specs.Access.Access.{done, read_at, store_at}
use Rattle.memory.specs.Inside.{Bytes}
use Rattle.memory.proofs.Laws.{perform_then}
use Rattle.waking.specs.States.{is_awake}
use Rattle.editions.specs.declared.Edition.{Edition}
use Rattle.processor.specs.declared.Processor.{Processor}
use Rattle.modes.specs.Branches.{branched}
use Rattle.modes.specs.Modes.{fetch, direct}
use Rattle.instructions.specs.Inside.{Fits}
use Rattle.instructions.specs.Rows.{rows}
use Rattle.instructions.specs.Gather.{gather_of, loaded}
use Rattle.instructions.specs.Effects.{effect_of}
use Rattle.instructions.specs.Step.{commit_of, branch_of, read_for, finish_of, step_of}
use Rattle.instructions.specs.Order.{OnlyStores, ReadsFirst, after_opcode, opcode_first}
use Rattle.runs.specs.Run.{progress, run}
use Rattle.runs.specs.Trace.{Event, events}
use Rattle.runs.specs.Trace.Event.{read, store}
use Rattle.runs.specs.Marks.{stores_at, ReadFirst}
use Rattle.engine.specs.Entry.{counted_step, run_of}
use Rattle.engine.specs.Inside.{step_widths}
use Rattle.engine.specs.Theorems.{reads_first}
use Rattle.watch.specs.Devices.{devices_read}
use Rattle.watch.specs.Theorems.{SomeStepReads, bit_told}

-- k is read: the list splits at a read of it, whatever stands before
pub record ReadIn (k : ℕ) (t : List Event) : Type 0 where
  pub before : List Event
  pub after : List Event
  pub split : t ≡ before ++ read k ∷ after

-- ---- any accesses

-- What only makes another result of theirs adds no access.
events_then : {R S : Type 0} (p : Access S) (g : S → R) (w : World) → events (then p (λ x. done (g x))) w ≡ events p w
unfolding events then
events_then (done x) g w = refl
events_then (read_at a p) g w = ap (read a ∷◌) (events_then (p (byte_at a w)) g (seen a w))
events_then (store_at a byte p) g w = ap (store a byte ∷◌) (events_then p g (kept a byte w))

-- a taken displacement, or nothing
branch_reads : (taken : Bool) (cpu : Processor) → ReadsFirst (branch_of taken cpu)
unfolding branch_of branched fetch then
branch_reads true cpu = λ _. tt
branch_reads false cpu = tt

-- ---- reads of one address

module _ (k : ℕ) where
  -- that it is read, access by access
  abbrev Has : List Event → Type 0
  Has [] = ⊥
  Has (read a ∷ t) = (a ≡ k) ⊎ Has t
  Has (store a byte ∷ t) = Has t

  has_split : (s t : List Event) → Has (s ++ read k ∷ t)
  has_split [] t = inl refl
  has_split (read a ∷ s) t = inr (has_split s t)
  has_split (store a byte ∷ s) t = has_split s t

  has : {t : List Event} → ReadIn k t → Has t
  has r = rw r.split (has_split r.before r.after)

  -- where k is read, it is read before it is stored to
  abbrev Early : List Event → Type 0
  Early t = Has t → ReadFirst k t

  later : {t : List Event} (e : Event) → stores_at k e ≡ false → ReadFirst k t → ReadFirst k (e ∷ t)
  later e q r = record { before = e ∷ r.before; after = r.after; split = ap (e ∷◌) r.split; first = rw q r.first }

  at_once : (a : ℕ) (t : List Event) → a ≡ k → ReadFirst k (read a ∷ t)
  at_once a t e = record { before = []; after = t; split = ap (λ (x : ℕ). read x ∷ t) e; first = refl }

  early_read : (a : ℕ) (t : List Event) → Early t → Early (read a ∷ t)
  early_read a t early (inl e) = at_once a t e
  early_read a t early (inr h) = later (read a) refl (early h)

  -- an address that is read, and then stored to
  early_update : (a byte : ℕ) (t : List Event) → Early t → Early (read a ∷ store a byte ∷ t)
  early_update a byte t early = go (eqb a k) refl
    where
      go : (b : Bool) → eqb a k ≡ b → Early (read a ∷ store a byte ∷ t)
      go true q = λ _. at_once a (store a byte ∷ t) (eqb-true a k q)
      go false q = early_read a (store a byte ∷ t) (λ h. later (store a byte) q (early h))

  -- accesses with all reads first
  none_read : {R : Type 0} (p : Access R) (w : World) → OnlyStores p → Has (events p w) → ⊥
  unfolding events
  none_read (done x) w o h = h
  none_read (read_at a p) w o h = o
  none_read (store_at a byte p) w o h = none_read p (kept a byte w) o h

  early_accesses : {R : Type 0} (p : Access R) (w : World) → ReadsFirst p → Early (events p w)
  unfolding events
  early_accesses (done x) w f = λ h. absurd h
  early_accesses (read_at a p) w f = early_read a _ (early_accesses (p (byte_at a w)) (seen a w) (f (byte_at a w)))
  early_accesses (store_at a byte p) w f = λ h. absurd (none_read p (kept a byte w) f h)

  module _ (edition : Edition) (cpu : Processor) where
    -- DBNZ d,rel stores before it reads its displacement, but where it stores it has just read.
    early_dbnz : (w : World) → Early (events (after_opcode edition cpu 0x6E) w)
    unfolding events then read_for rows gather_of direct fetch loaded effect_of finish_of commit_of
    early_dbnz w = early_read _ _ (early_update _ _ _ (early_accesses (branch_of _ _) _ (branch_reads _ _)))

    early_after : (opcode : ℕ) (w : World) → opcode < 256 → Early (events (after_opcode edition cpu opcode) w)
    early_after opcode w h = go (ℕ_discrete opcode 0x6E)
      where
        go : Dec (opcode ≡ 0x6E) → Early (events (after_opcode edition cpu opcode) w)
        go (yes e) = rw e (early_dbnz w)
        go (no n) = early_accesses (after_opcode edition cpu opcode) w (reads_first edition cpu opcode h n)

    early_step : (w : World) → Bytes w → Early (events (step_of edition cpu) w)
    unfolding events
    early_step w bytes =
        let at = cpu.pc in rw opcode_first (early_read at _ (early_after (byte_at at w) (seen at w) (bytes.below at)))

    early_counted : (w : World) → Bytes w → Early (events (counted_step edition cpu) w)
    unfolding counted_step events
    early_counted w bytes = go (is_awake cpu.state) refl
      where
        go : (b : Bool) → is_awake cpu.state ≡ b → Early (events (counted_step edition cpu) w)
        go true e = rw (e, events_then (step_of edition cpu) (λ next. progress next 1) w) (early_step w bytes)
        go false e = rw e (λ h. absurd h)

-- A step of either edition, on a memory of bytes, that reads an address at some place reads it before it stores there.
pub read_is_first : (edition : Edition) (cpu : Processor) (w : World) (k : ℕ) → Bytes w
    → ReadIn k (events (counted_step edition cpu) w) → ReadFirst k (events (counted_step edition cpu) w)
read_is_first edition cpu w k bytes r = early_counted k edition cpu w bytes (has k r)

-- ---- a run

-- Of some step of a run: the number of steps before it, and that its accesses, from what these have left, read the address at some place.
pub record SomeStepReadsAtAll (edition : Edition) (budget : ℕ) (cpu : Processor) (w : World) (k : ℕ) : Type 0 where
  pub before : ℕ
  pub within : before < budget
  pub reads : let o = run_of edition before cpu w in ReadIn k (events (counted_step edition o.result.regs) o.left)

module _ (edition : Edition) where
  -- A step, taken or not, leaves a memory of bytes and registers in their widths.
  counted_widths : (cpu : Processor) (w : World) → Fits cpu → Bytes w
      → let o = perform (counted_step edition cpu) w in Fits o.result.regs × Bytes o.left
  unfolding counted_step perform
  counted_widths cpu w fits bytes = go (is_awake cpu.state) refl
    where
      go : (b : Bool) → is_awake cpu.state ≡ b
          → let o = perform (counted_step edition cpu) w in Fits o.result.regs × Bytes o.left
      go true e = rw (e, perform_then) (step_widths edition cpu w fits bytes)
      go false e = rw e (fits, bytes)

  -- So every step of a run finds a memory of bytes.
  run_bytes : (n : ℕ) (cpu : Processor) (w : World) → Fits cpu → Bytes w → Bytes (run_of edition n cpu w).left
  unfolding run
  run_bytes zero cpu w fits bytes = bytes
  run_bytes (suc n) cpu w fits bytes =
      let o = perform (counted_step edition cpu) w in let one = counted_widths cpu w fits bytes in
      run_bytes n o.result.regs o.left one.0 one.1

  -- On memory and maps of the right lengths, where memory holds bytes, and from registers in their widths, the bit of value 2^j, of the
  -- sixteen, is set exactly when some step of the run reads 00F0 + j, at any place of the step and whatever was stored before.
  pub read_told : (j : ℕ) → j < 16 → (budget : ℕ) (cpu : Processor) (w : World) → Sized w → Bytes w → Fits cpu
      → (devices_read edition budget cpu w.memory / 2 ^ j % 2 ≡ 1) ↔ SomeStepReadsAtAll edition budget cpu w (240 + j)
  read_told j h budget cpu w size bytes fits =
      let told = bit_told edition j h budget cpu w size in (λ e. at_all (told.0 e), λ s. told.1 (first s))
    where
      at_all : SomeStepReads edition budget cpu w (240 + j) → SomeStepReadsAtAll edition budget cpu w (240 + j)
      at_all s =
          let r = s.reads in
          record { before = s.before; within = s.within; reads = record { before = r.before; after = r.after; split = r.split } }

      first : SomeStepReadsAtAll edition budget cpu w (240 + j) → SomeStepReads edition budget cpu w (240 + j)
      first s = record {
        before = s.before;
        within = s.within;
        reads = read_is_first edition _ _ (240 + j) (run_bytes s.before cpu w fits bytes) s.reads;
      }
