-- The step with the marks of FFC0 to FFFF set aside, as the code makes it, call by call.
-- Assumes nothing.
use Prim.Native.Nat.{ℕ, ◌+◌, ◌<◌}
use mathlib.Core.Path.{◌≡◌, refl}
use mathlib.Core.Bool.{Bool}
use mathlib.Core.List.{List, ◌++◌}
use lib.ListN.{get_or, take, drop}
use Rattle.memory.specs.World.{World, world}
use Rattle.memory.specs.Access.{Access, Outcome, outcome, perform}
use Rattle.editions.specs.declared.Edition.{Edition}
use Rattle.processor.specs.declared.Processor.{Processor}
use Rattle.runs.specs.Run.{Progress}
use Rattle.runs.proofs.Run.{run_one}
use Rattle.runs.proofs.Trace.{perform_unmapped}
use Rattle.engine.specs.Entry.{told, counted_step, run_of}
use Rattle.engine.specs.declared.Ran.{Ran}
use Rattle.watch.proofs.Byte.{Maps}
use Rattle.blanking.specs.Together.{together}
use Rattle.boot_rom.specs.Inside.{Taken, any_marked, read_back}
use Rattle.boot_rom.specs.Reading.{rom_step}
use Rattle.boot_rom.proofs.Aside.{bare, reads_back, writes_back, marked_alone}

-- the marks of FFC0 to FFFF in a map, and the map with others in their place
abbrev own : List ℕ → List ℕ
own map = drop 8184 map

abbrev put : List ℕ → List ℕ → List ℕ
put map part = take 8184 map ++ part

module _ (edition : Edition) (cpu : Processor) (w : World) where
  abbrev step : Access (Progress Processor)
  step = counted_step edition cpu

  module _ {read stored no_reads no_writes : List ℕ} {o : Outcome World Ran} (of_reads : Taken w.reads read no_reads)
      (of_writes : Taken w.writes stored no_writes) (e : o ≡ told (run_of edition 1 cpu (world w.memory no_reads no_writes))) where
    maps : Maps w
    maps = record { reads = of_reads.size; writes = of_writes.size }

    bytes : (i : ℕ) → get_or w.writes (8184 + i) 0 < 256
    bytes i = of_writes.bytes (8184 + i)

    abbrev start : World
    start = bare step 8184 8 refl w maps bytes

    stepped : o ≡ told (perform step start)
    stepped = rw (of_reads.bare, of_writes.bare, run_one) at e

    -- With the marks put back the code has made the step and told of it.
    pub made : {rom : Bool} {reads writes : List ℕ} → rom ≡ any_marked (own o.left.reads)
        → reads ≡ put o.left.reads (read_back (own o.left.reads) read stored)
        → writes ≡ put o.left.writes (together stored (own o.left.writes))
        → outcome (record { cpu = o.result.cpu; rom = rom }) (world o.left.memory reads writes) ≡ rom_step edition cpu w
    made rom_is reads_are writes_are =
        let same = (perform_unmapped step start w refl).0 in
        rw (
          rom_is,
          reads_are,
          writes_are,
          of_reads.own,
          of_writes.own,
          stepped,
          same.result,
          same.memory,
          reads_back step 8184 8 refl w maps bytes,
          writes_back step 8184 8 refl w maps bytes,
          marked_alone step 8184 8 refl w maps bytes 8192 refl,
        )
