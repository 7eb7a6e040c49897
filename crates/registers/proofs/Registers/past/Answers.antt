-- The sum that wraps is the definition's.
-- Assumes nothing.
use Rattle.registers.proofs.Registers.past.Goals as goal

pub returns : goal.returns
returns c = cc
