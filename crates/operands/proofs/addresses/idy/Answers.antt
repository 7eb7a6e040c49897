-- The pointer at the address, plus Y.
-- Assumes nothing.
use Rattle.memory.proofs.Laws.{accesses}
use Rattle.modes.specs.Modes.{pointer_y}
use Rattle.operands.proofs.addresses.idy.Goals as goal

pub returns : goal.returns
unfolding pointer_y
returns c = search (accesses, c.pointer.ensures)
