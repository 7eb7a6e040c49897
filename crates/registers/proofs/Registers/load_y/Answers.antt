-- Y is set first, and its change leaves N and Z to `nz`.
-- Assumes nothing.
use Rattle.registers.proofs.Registers.load_y.Goals as goal

pub returns : goal.returns
returns c = rw c.with_y.ensures at c.nz.ensures.cpu
