-- Steps counted, and runs of them.
use Rattle.std.specs.Prelude.{ℕ, cond}
use Rattle.waking.specs.States.{is_awake}
use Rattle.memory.specs.World.{World}
use Rattle.memory.specs.Access.{Access, then, Outcome}
use Rattle.memory.specs.Access.Access.{done}
use Rattle.editions.specs.declared.Edition.{Edition}
use Rattle.processor.specs.declared.Processor.{Processor}
use Rattle.runs.specs.Run.{Progress, progress, run}
use Rattle.runs.specs.Trace.{taken}
use Rattle.instructions.specs.Step.{step_of}

-- One step in an edition, counted, of a record that is awake: SLEEP and STOP count, too. A record that is not awake takes none, and nothing
-- changes.
unfoldable pub counted_step : Edition → Processor → Access (Progress Processor)
counted_step edition cpu =
    cond (is_awake cpu.state) (then (step_of edition cpu) (λ next. done (progress next 1))) (done (progress cpu 0))

-- A run, all in one edition: as many of these as the budget has, one after the other. So it takes steps until the budget is spent or SLEEP
-- or STOP was executed, and none if the record is not awake to begin with.
abbrev pub run_of : Edition → ℕ → Processor → World → Outcome World (Progress Processor)
run_of edition = run (taken (counted_step edition))
