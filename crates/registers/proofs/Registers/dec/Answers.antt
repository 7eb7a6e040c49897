-- The difference is the definition's.
-- Assumes nothing.
use Rattle.registers.proofs.Registers.dec.Goals as goal

pub returns : goal.returns
returns c = rw (← c.difference.ensures) c.nz.ensures
