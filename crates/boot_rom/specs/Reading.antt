-- Whether a step reads at FFC0 to FFFF, where the boot ROM is while it is on.
use Rattle.std.specs.Prelude.{ℕ, Bool, List, drop}
use Rattle.memory.specs.World.{World}
use Rattle.memory.specs.Access.{Outcome, outcome, perform}
use Rattle.editions.specs.declared.Edition.{Edition}
use Rattle.processor.specs.declared.Processor.{Processor}
use Rattle.engine.specs.Entry.{counted_step}
use Rattle.watch.specs.Devices.{alone}
use Rattle.boot_rom.specs.Inside.{any_marked}
use Rattle.boot_rom.specs.declared.Stepped.{Stepped}

-- By itself, from clear maps, it marks what it reads; the last eight bytes of a map are those of FFC0 to FFFF.
abbrev pub reads_rom : Edition → Processor → List ℕ → Bool
reads_rom edition cpu memory = any_marked (drop 8184 (alone edition cpu memory).left.reads)

-- The step itself, and whether it reads there. The maps are left as the step leaves them.
abbrev pub rom_step : Edition → Processor → World → Outcome World Stepped
rom_step edition cpu w =
    let o = perform (counted_step edition cpu) w in
    outcome (record { cpu = o.result.regs; rom = reads_rom edition cpu w.memory }) o.left
