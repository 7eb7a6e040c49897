-- Accesses that stay inside a memory of bytes.
use Rattle.std.specs.Prelude.{ℕ, ◌<◌}
use Rattle.memory.specs.World.{World, byte_at}
use Rattle.memory.specs.Access.{Access}
use Rattle.memory.specs.Access.Access.{done, read_at, store_at}

-- A memory that holds bytes.
pub record Bytes (w : World) : Type 0 where
  pub below : (a : ℕ) → byte_at a w < 256

-- Whatever bytes are read, every address that is read or stored is below 65,536, and what is stored is a byte.
abbrev pub Inside : {R : Type 0} → Access R → Type 0
Inside (done x) = Unit
Inside (read_at a p) = (a < 65536) × ((byte : ℕ) → byte < 256 → Inside (p byte))
Inside (store_at a byte p) = (a < 65536) × (byte < 256) × Inside p
