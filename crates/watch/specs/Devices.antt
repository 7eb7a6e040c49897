-- Which device addresses, 00F0 to 00FF, the steps of a run read, also where something was stored before.
use Rattle.std.specs.Prelude.{ℕ, zero, suc, ◌+◌, ◌*◌, List, get_or}
use Rattle.std.specs.Int.Bits.{bit_or}
use Rattle.memory.specs.World.{World, world}
use Rattle.memory.specs.Access.{Outcome, perform}
use Rattle.editions.specs.declared.Edition.{Edition}
use Rattle.processor.specs.declared.Processor.{Processor}
use Rattle.runs.specs.Run.{Progress}
use Rattle.engine.specs.Entry.{counted_step}
use Rattle.engine.specs.Provenance.{clear}

-- One step of a run by itself, from clear maps: its read map marks what this step reads, whatever the steps before it have stored. That it
-- marks all that the step reads, though DBNZ reads its displacement behind a store, is proved: Reads.
abbrev pub alone : Edition → Processor → List ℕ → Outcome World (Progress Processor)
alone edition cpu memory = perform (counted_step edition cpu) (world memory clear clear)

-- The sixteen device addresses as one number, out of a map: the bit of value 2^j stands for 00F0 + j. They have the bytes 30 and 31.
abbrev pub devices_of : List ℕ → ℕ
devices_of map = get_or map 30 0 + 256 * get_or map 31 0

-- What the steps of a run read of them: a bit is set where some step reads its address.
unfoldable pub devices_read : Edition → ℕ → Processor → List ℕ → ℕ
devices_read edition zero cpu memory = 0
devices_read edition (suc budget) cpu memory =
    let o = alone edition cpu memory in
    bit_or (devices_of o.left.reads) (devices_read edition budget o.result.regs o.left.memory)
