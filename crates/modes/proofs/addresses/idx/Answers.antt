-- d+X, then the pointer word there.
-- Assumes nothing.
use Rattle.std.proofs.Common.{rules}
use Rattle.memory.proofs.Laws.{accesses}
use Rattle.modes.specs.Modes.{pointer_x}
use Rattle.modes.proofs.addresses.idx.Goals as goal

pub returns : goal.returns
unfolding pointer_x
returns c = search accesses
