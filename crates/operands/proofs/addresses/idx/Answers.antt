-- The pointer at the indexed address.
-- Assumes nothing.
use Rattle.memory.proofs.Laws.{accesses}
use Rattle.modes.specs.Modes.{pointer_x}
use Rattle.operands.proofs.addresses.idx.Goals as goal

pub returns : goal.returns
unfolding pointer_x
returns c = search (accesses, c.pointer.ensures)
