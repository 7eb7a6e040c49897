-- The word, and the index added to it.
-- Assumes nothing.
use Rattle.memory.proofs.Laws.{accesses}
use Rattle.modes.specs.Modes.{absolute}
use Rattle.operands.proofs.addresses.abs_off.Goals as goal

pub returns : goal.returns
unfolding absolute
returns c = rw c.wrapping_add_u16.ensures.value (search accesses)
