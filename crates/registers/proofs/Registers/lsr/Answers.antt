-- C is bit 0 of the byte, which is kept whole for it.
-- Assumes nothing.
use Rattle.std.proofs.Common.{refl, add-zero}
use Rattle.registers.proofs.Laws.{carrying}
use Rattle.registers.proofs.Registers.lsr.Goals as goal

pub returns : goal.returns
returns c = rw add-zero (carrying _ c.nz.ensures c.with_c.ensures refl)
