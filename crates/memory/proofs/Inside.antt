-- A memory of bytes in which a byte is stored is one still.
-- Assumes nothing.
use Rattle.std.proofs.Common.{ℕ, ◌<◌}
use Rattle.laws.specs.Bytes.{set_below}
use Rattle.memory.specs.World.{World, kept}
use Rattle.memory.specs.Inside.{Bytes}

pub bytes_kept : (a byte : ℕ) (w : World) → byte < 256 → Bytes w → Bytes (kept a byte w)
bytes_kept a byte w b m = record { below = set_below w.memory a byte b m.below }
