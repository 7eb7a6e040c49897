-- One step of a song: the devices are laid out in memory, the step is taken, and what it has read and stored there goes to the devices.
use Rattle.std.specs.Prelude.{ℕ, ◌%◌, Bool, ◌&&◌, ◌||◌, List, [], ◌∷◌, get_or}
use Rattle.std.proofs.lemmas.List.Edits.{sets}
use Rattle.memory.specs.World.{World, world}
use Rattle.memory.specs.Access.{Outcome, outcome, perform}
use Rattle.editions.specs.declared.Edition.{Edition}
use Rattle.processor.specs.declared.Processor.{Processor}
use Rattle.engine.specs.Entry.{counted_step}
use Rattle.watch.specs.Devices.{devices_of}
use Rattle.watch.specs.Marks.{with_marks}
use Rattle.cycles.specs.Cost.{cost_of}
use Rattle.devices.specs.Devices.{bit, timer_at, port_at, after_reads, after_stores, passed}
use Rattle.devices.specs.declared.Devices.{Devices}
use Rattle.boot_rom.specs.Reading.{reads_rom}
use Rattle.boot_rom.specs.declared.Stepped.{Stepped}
use Rattle.host.specs.Chip.{Sound, sound, heard}
use Rattle.host.specs.declared.Player.{Player}

-- All of a playing: registers and devices; memory and maps; the sound chip's row; the map of what it may fetch.
pub record Playing : Type 0 where
  pub player : Player
  pub world : World
  pub chip : List ℕ
  pub fetched : List ℕ

abbrev pub playing : Processor → Devices → World → Sound → Playing
playing cpu devices w s =
    record { player = record { cpu = cpu; devices = devices }; world = w; chip = s.chip; fetched = s.fetched }

-- ---- before the step

-- what the console sent last to each of the four ports, and the counters of the three timers
abbrev pub sent : Devices → List ℕ
sent d = port_at d 0 ∷ port_at d 1 ∷ port_at d 2 ∷ port_at d 3 ∷ []

abbrev pub counts : Devices → List ℕ
counts d = (timer_at d 0).count ∷ (timer_at d 1).count ∷ (timer_at d 2).count ∷ []

-- What the devices answer stands in memory: at 00F3 the sound register that 00F2 names, at 00F4 to 00F7 what the console sent last, at 00FD
-- to 00FF the counters of the timers. All else is as it was: at the other device addresses, what was stored there last.
unfoldable pub laid_out : Devices → List ℕ → List ℕ → List ℕ
laid_out d chip memory =
    sets
    (sets memory 0xF3 (get_or chip (get_or memory 0xF2 0 % 128) 0 ∷ sent d))
    0xFD
    (counts d)

-- No device address is marked, in either map, when the step begins.
abbrev pub unmarked : World → World
unmarked w = world w.memory (with_marks w.reads 0) (with_marks w.writes 0)

abbrev pub ready : Playing → World
ready p = unmarked (world (laid_out p.player.devices p.chip p.world.memory) p.world.reads p.world.writes)

-- ---- the step

-- Whether a step reads the boot ROM: it is on while bit 7 of what was stored to 00F1 is set.
abbrev pub rom_of : Edition → Processor → List ℕ → Bool
rom_of edition cpu memory = bit (get_or memory 0xF1 0) 7 && reads_rom edition cpu memory

abbrev pub step_on : Edition → Processor → World → Outcome World Stepped
step_on edition cpu w =
    let o = perform (counted_step edition cpu) w in
    outcome (record { cpu = o.result.regs; rom = rom_of edition cpu w.memory }) o.left

-- ---- behind the step

-- The devices: what was read and stored there, a read of the boot ROM, and the cycles that have passed.
unfoldable pub noted : ℕ → ℕ → List ℕ → Bool → ℕ → Devices → Devices
noted read stored memory rom cost d =
    let next = after_stores stored memory (after_reads read d) in
    passed cost (record next { rom = next.rom || rom })

-- The turn. The marks of the device addresses tell what this step has read and stored there; they stay in the maps until the next.
unfoldable pub turn_of : Edition → Playing → Playing
turn_of edition p =
    let cpu = p.player.cpu in
    let start = ready p in
    let o = step_on edition cpu start in
    let read = devices_of o.left.reads in
    let stored = devices_of o.left.writes in
    playing
    o.result.cpu
    (noted read stored o.left.memory o.result.rom (cost_of cpu start.memory) p.player.devices)
    o.left
    (heard read stored (get_or start.memory 0xF2 0) o.left.memory o.left.writes (sound p.chip p.fetched))
