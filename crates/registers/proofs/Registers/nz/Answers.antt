-- The byte is the one that both N and Z are told by.
-- Assumes nothing.
use Rattle.std.proofs.Common.{refl}
use Rattle.registers.proofs.Registers.nz.Goals as goal

pub returns : goal.returns
returns c = rw c.with_nz.ensures (record { cpu = refl; byte = refl })
