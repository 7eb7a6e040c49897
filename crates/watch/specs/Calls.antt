-- A watched run: what it answers, and what it leaves.
use Rattle.std.specs.Prelude.{ℕ, Option, Some, None, Result, Ok, Err}
use Rattle.refusals.specs.declared.Refusal.{Refusal}
use Rattle.memory.specs.World.{World}
use Rattle.memory.specs.Access.{Outcome, outcome}
use Rattle.editions.specs.Editions.{edition_of}
use Rattle.editions.specs.declared.Edition.{Edition}
use Rattle.processor.specs.declared.Processor.{Processor}
use Rattle.engine.specs.Entry.{answer_of, refusal_of, run_of}
use Rattle.engine.specs.declared.Ran.{Ran}
use Rattle.watch.specs.Devices.{devices_read}
use Rattle.watch.specs.declared.Watched.{Watched}

abbrev pub watched : Ran → ℕ → Watched
watched ran devices = record { ran = ran; devices = devices }

-- The run's own answer, and the device addresses that its steps read. Memory and maps are left as the run leaves them.
abbrev pub watching : Edition → ℕ → Processor → World → Outcome World Watched
watching edition budget cpu w =
    let o = run_of edition budget cpu w in outcome (watched (answer_of o.result) (devices_read edition budget cpu w.memory)) o.left

-- The same, by the refusal of a run. Refused, nothing changes, and no step is taken.
abbrev pub answered : Option Refusal → World → Outcome World Watched → Outcome World (Result Watched Refusal)
answered None w o = outcome (Ok o.result) o.left
answered (Some r) w o = outcome (Err r) w

-- It is given the number of the edition.
abbrev pub watched_run : ℕ → ℕ → Processor → World → Outcome World (Result Watched Refusal)
watched_run number budget cpu w = answered (refusal_of number w) w (watching (edition_of number) budget cpu w)
