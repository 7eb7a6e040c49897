-- What the functions behind `session` promise.
use Rattle.std.specs.Prelude.{ℕ, ◌/◌, ◌%◌, ◌≡◌, List, [], ◌∷◌, ◌++◌}
use Rattle.std.specs.Int.Bits.{bit_or}
use Rattle.std.proofs.lemmas.List.Edits.{sets}
use Rattle.waking.specs.States.{number_of}
use Rattle.marks.specs.declared.Counted.{Counted}
use Rattle.memory.specs.World.{World, world}
use Rattle.state.specs.Registers.{whole_bytes_of, four_bytes}
use Rattle.engine.specs.declared.Ran.{Ran}
use Rattle.watch.specs.declared.Watched.{Watched}
use Rattle.blanking.specs.Calls.{blanked_image, unmarked}
use Rattle.blanking.specs.Together.{together}
use Rattle.auditor.specs.Packet.{memory_in, reads_in, writes_in, devices_in}

-- the memory and the maps that a packet holds
abbrev pub world_in : List ℕ → World
world_in packet = world (memory_in packet) (reads_in packet) (writes_in packet)

-- What stays is what either map marks; the image is blanked by it, and so many addresses were given the byte.
pub record Keeping (reads kept image : List ℕ) (byte : ℕ) (both given : List ℕ) (blanked : ℕ) : Type 0 where
  pub stays : both ≡ together reads kept
  pub left : given ≡ blanked_image (together reads kept) byte image
  pub count : blanked ≡ unmarked (together reads kept)

-- the bytes of an answer's head from the registers on, up to those that have no meaning yet
unfoldable pub told : Ran → Counted → ℕ → ℕ → List ℕ
told ran counted blanked devices =
    whole_bytes_of ran.cpu
    ++ number_of ran.cpu.state ∷ four_bytes ran.steps
    ++ (four_bytes counted.read_only ++ four_bytes counted.stored_only ++ four_bytes counted.both ++ four_bytes blanked)
    ++ devices % 256 ∷ devices / 256 ∷ []

-- a head with an answer laid into it
abbrev pub told_in : List ℕ → Watched → Counted → ℕ → List ℕ
told_in head watched counted blanked = sets head 6 (told watched.ran counted blanked (bit_or (devices_in head) watched.devices))
