-- One step with the marks of the device addresses set aside: put back, they are as the step by itself leaves them, and what it marked
-- meanwhile is what it marks from clear maps.
-- Assumes nothing.
use Prim.Native.Nat.{ℕ, ◌+◌, ◌*◌, ◌<◌}
use mathlib.Core.Path.{◌≡◌, refl, ap, ap₂, sym, ◌∙◌}
use mathlib.Core.List.{List}
use native.Mathlib.Omega.{arith}
use lib.Bits.{or_zero_r, or_shr, or_mod}
use lib.ListN.{replicate, length-replicate, get_or-replicate}
use Rattle.memory.specs.World.{World, world}
use Rattle.memory.specs.Access.{Access, Outcome, outcome, perform}
use Rattle.editions.specs.declared.Edition.{Edition}
use Rattle.processor.specs.declared.Processor.{Processor}
use Rattle.runs.specs.Run.{Progress}
use Rattle.runs.proofs.Run.{run_one}
use Rattle.runs.proofs.Trace.{perform_unmapped}
use Rattle.engine.specs.Entry.{answer_of, told, counted_step, run_of}
use Rattle.engine.specs.declared.Ran.{Ran}
use Rattle.watch.specs.Calls.{watched, watching}
use Rattle.watch.specs.Devices.{alone, devices_of, devices_read}
use Rattle.watch.specs.Marks.{SetAside, PutBack}
use Rattle.watch.proofs.Byte.{Maps, maps_left, Both, both, byte_of, over, same_byte, put_over}
use Rattle.watch.proofs.Maps.{length_with, get_low, get_high, get_other, only_with, low_back, high_back}

-- ---- any accesses with these marks set aside

module _ {R : Type 0} (p : Access R) (w : World) {reads_left writes_left : List ℕ} {read stored : ℕ}
    (before : SetAside w.reads w.writes read stored reads_left writes_left) where
  abbrev aside : World
  aside = world w.memory reads_left writes_left

  maps : Maps w
  maps = record { reads = before.of_reads.size; writes = before.of_writes.size }

  aside_maps : Maps aside
  aside_maps = record {
    reads = rw before.no_reads (length_with w.reads 0 ∙ maps.reads);
    writes = rw before.no_writes (length_with w.writes 0 ∙ maps.writes);
  }

  -- their bytes are zero, and every other byte is as it was
  zero_low : byte_of 30 aside ≡ both 0 0
  zero_low = rw (before.no_reads, before.no_writes) (ap₂ both (get_low w.reads 0 maps.reads) (get_low w.writes 0 maps.writes))

  zero_high : byte_of 31 aside ≡ both 0 0
  zero_high =
      rw (before.no_reads, before.no_writes) (ap₂ both (get_high w.reads 0 maps.reads) (get_high w.writes 0 maps.writes))

  others : (i : ℕ) → (i ≡ 30 → ⊥) → (i ≡ 31 → ⊥) → byte_of i aside ≡ byte_of i w
  others i m n =
      rw (before.no_reads, before.no_writes) (ap₂ both (get_other w.reads 0 i m n) (get_other w.writes 0 i m n))

  -- so what the accesses do to them is known
  elsewhere : (i : ℕ) → i < 8192 → (i ≡ 30 → ⊥) → (i ≡ 31 → ⊥) → byte_of i (perform p aside).left ≡ byte_of i (perform p w).left
  elsewhere i h m n = same_byte p i h aside w aside_maps maps refl (others i m n)

  at_low : byte_of 30 (perform p w).left ≡ over (byte_of 30 w) (byte_of 30 (perform p aside).left)
  at_low = put_over p 30 (omega arith) aside w aside_maps maps refl zero_low (omega (arith, before.of_writes.low))

  at_high : byte_of 31 (perform p w).left ≡ over (byte_of 31 w) (byte_of 31 (perform p aside).left)
  at_high =
      put_over p 31 (omega arith) aside w aside_maps maps refl zero_high (omega (arith, before.of_writes.high, before.of_writes.fits))

  module _ {devices : ℕ} {reads writes : List ℕ}
      (after : PutBack (perform p aside).left.reads (perform p aside).left.writes read stored devices reads writes) where
    reads_back : reads ≡ (perform p w).left.reads
    reads_back =
        after.all_reads
        ∙ only_with (perform p aside).left.reads _ (perform p w).left.reads
        (maps_left p aside aside_maps).reads (maps_left p w maps).reads
        (low_back read devices stored before.of_writes.fits
        ∙ rw (before.of_reads.low, before.of_writes.low, after.of_reads.low) (sym (ap (λ (b : Both). b.read) at_low)))
        (high_back read devices stored before.of_writes.fits
        ∙ rw (before.of_reads.high, before.of_writes.high, after.of_reads.high) (sym (ap (λ (b : Both). b.read) at_high)))
        (λ i h m n. ap (λ (b : Both). b.read) (elsewhere i h m n))

    writes_back : writes ≡ (perform p w).left.writes
    writes_back =
        let since = devices_of (perform p aside).left.writes in
        after.all_writes
        ∙ only_with (perform p aside).left.writes _ (perform p w).left.writes
        (maps_left p aside aside_maps).writes (maps_left p w maps).writes
        (or_mod stored since 8 ∙ rw (before.of_writes.low, after.of_writes.low) (sym (ap (λ (b : Both). b.stored) at_low)))
        (or_shr stored since 8 ∙ rw (before.of_writes.high, after.of_writes.high) (sym (ap (λ (b : Both). b.stored) at_high)))
        (λ i h m n. ap (λ (b : Both). b.stored) (elsewhere i h m n))

    -- over the length of clear maps, so that no list of 8,192 zeros is ever written out
    devices_alone : (n : ℕ) → n ≡ 8192 → devices ≡ devices_of (perform p (world w.memory (replicate n 0) (replicate n 0))).left.reads
    devices_alone n e =
        after.of_reads.all
        ∙ ap₂ (λ (x y : ℕ). x + 256 * y)
        (as_cleared 30 (omega arith) (omega arith) zero_low)
        (as_cleared 31 (omega arith) (omega arith) zero_high)
      where
        cleared : World
        cleared = world w.memory (replicate n 0) (replicate n 0)

        cleared_maps : Maps cleared
        cleared_maps = let long = length-replicate {A = ℕ} n 0 ∙ e in record { reads = long; writes = long }

        as_cleared : (i : ℕ) → i < n → i < 8192 → byte_of i aside ≡ both 0 0
            → (byte_of i (perform p aside).left).read ≡ (byte_of i (perform p cleared).left).read
        as_cleared i g h z =
            let zeros = ap₂ both (get_or-replicate {A = ℕ} n i 0 0 g) (get_or-replicate {A = ℕ} n i 0 0 g) in
            ap (λ (b : Both). b.read) (same_byte p i h aside cleared aside_maps cleared_maps refl (z ∙ sym zeros))

-- ---- a step

module _ (edition : Edition) (cpu : Processor) (w : World) where
  abbrev step : Access (Progress Processor)
  step = counted_step edition cpu

  -- a watched run of budget 1
  pub watched_one :
      let o = perform (counted_step edition cpu) w in
      watching edition 1 cpu w ≡ outcome (watched (answer_of o.result) (devices_of (alone edition cpu w.memory).left.reads)) o.left
  unfolding devices_read
  watched_one = rw (run_one, or_zero_r)

  -- The marks are set aside, the engine makes a run of budget 1, and with the marks put back the code has made a watched run of budget 1.
  pub turned : {reads_left writes_left : List ℕ} {read stored : ℕ} {o : Outcome World Ran} {devices : ℕ} {reads writes : List ℕ}
      → SetAside w.reads w.writes read stored reads_left writes_left
      → o ≡ told (run_of edition 1 cpu (world w.memory reads_left writes_left))
      → PutBack o.left.reads o.left.writes read stored devices reads writes
      → outcome (watched o.result devices) (world o.left.memory reads writes) ≡ watching edition 1 cpu w
  turned {reads_left} {writes_left} before e after =
      let stepped = rw run_one at e in
      let put = rw stepped at after in
      let same = (perform_unmapped step (world w.memory reads_left writes_left) w refl).0 in
      let told = devices_alone step w before put 8192 refl in
      rw (stepped, watched_one, reads_back step w before put, writes_back step w before put, same.result, same.memory, told)
