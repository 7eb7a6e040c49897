-- d, then the pointer word there.
-- Assumes nothing.
use Rattle.std.proofs.Common.{rules}
use Rattle.memory.proofs.Laws.{accesses}
use Rattle.modes.specs.Modes.{pointer_y}
use Rattle.modes.proofs.addresses.idy.Goals as goal

pub returns : goal.returns
unfolding pointer_y
returns c = search accesses
