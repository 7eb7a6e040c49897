-- Each part is the definition's: the flags are those that `flags` gives, the state the one that `state_of` gives.
-- Assumes nothing.
use Rattle.registers.proofs.Registers.record.Goals as goal

pub returns : goal.returns
returns c = cc
