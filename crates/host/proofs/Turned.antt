-- What the calls of a turn give, put together.
-- Assumes nothing.
use Prim.Native.Nat.{ℕ}
use mathlib.Core.Path.{◌≡◌}
use mathlib.Core.List.{List}
use lib.ListN.{get_or}
use Rattle.memory.specs.World.{World, world}
use Rattle.memory.specs.Access.{Outcome}
use Rattle.editions.specs.declared.Edition.{Edition}
use Rattle.watch.specs.Marks.{Marks, with_marks}
use Rattle.cycles.specs.Cost.{cost_of}
use Rattle.devices.specs.declared.Devices.{Devices}
use Rattle.boot_rom.specs.declared.Stepped.{Stepped}
use Rattle.host.specs.Chip.{Sound, sound, heard}
use Rattle.host.specs.Turn.{Playing, playing, laid_out, step_on, noted, turn_of}

module _ (edition : Edition) (p : Playing) where
  pub turned : {laid reads writes : List ℕ} {o : Outcome World Stepped} {read stored cost : ℕ} {s : Sound} {d : Devices}
      → laid ≡ laid_out p.player.devices p.chip p.world.memory
      → reads ≡ with_marks p.world.reads 0 → writes ≡ with_marks p.world.writes 0
      → o ≡ step_on edition p.player.cpu (world laid reads writes)
      → cost ≡ cost_of p.player.cpu laid → Marks o.left.reads read → Marks o.left.writes stored
      → s ≡ heard read stored (get_or laid 0xF2 0) o.left.memory o.left.writes (sound p.chip p.fetched)
      → d ≡ noted read stored o.left.memory o.result.rom cost p.player.devices
      → playing o.result.cpu d o.left s ≡ turn_of edition p
  unfolding turn_of
  turned of_memory of_reads of_writes step cost read stored s d =
      rw (d, s, cost, read.all, stored.all, step, of_memory, of_reads, of_writes)
