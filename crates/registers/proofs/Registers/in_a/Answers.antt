-- A is the byte in z, by the setter's own words.
-- Assumes nothing.
use Rattle.registers.proofs.Registers.in_a.Goals as goal

pub returns : goal.returns
returns c = rw c.with_a.ensures
