-- A is set first, and its change leaves N and Z to `nz`.
-- Assumes nothing.
use Rattle.registers.proofs.Registers.load_a.Goals as goal

pub returns : goal.returns
returns c = rw c.with_a.ensures at c.nz.ensures.cpu
