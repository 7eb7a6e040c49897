-- What a long run gives: what the definition's run gives.
use Rattle.std.specs.Prelude.{ℕ, ◌≡◌}
use Rattle.laws.specs.Lent.{Lent}
use Rattle.memory.specs.World.{World}
use Rattle.memory.specs.Access.{Outcome, outcome}
use Rattle.editions.specs.declared.Edition.{Edition}
use Rattle.processor.specs.declared.Processor.{Processor}
use Rattle.runs.specs.Run.{Progress, progress}
use Rattle.instructions.specs.Runs.{run_of}
use Rattle.registers.specs.Flat.{record_of}
use Rattle.registers.specs.declared.Registers.{Registers}
use Rattle.cells.specs.Cells.{world_of}
use Rattle.long_runs.specs.declared.Taken.{Taken}

-- On flat registers and cells: what these stand for in the end is the run of what they stood for.
abbrev pub Ends : Edition → ℕ → Registers → Lent → Taken Registers → Type 0
Ends edition budget start cells r =
    outcome (progress (record_of r.cpu) r.steps) (world_of cells.exit)
    ≡ run_of edition budget (record_of start) (world_of cells.entry)

-- On the record, memory and maps: the record that the run leaves and its steps, and what it leaves in memory and maps.
abbrev pub taken_of : Outcome World (Progress Processor) → Outcome World (Taken Processor)
taken_of o = record { result = record { cpu = o.result.regs; steps = o.result.steps }; left = o.left }
