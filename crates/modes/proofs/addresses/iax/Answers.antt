-- !a+X, then the word there.
-- Assumes nothing.
use Rattle.std.proofs.Common.{rules}
use Rattle.memory.proofs.Laws.{accesses}
use Rattle.modes.specs.Modes.{absolute_pointer}
use Rattle.modes.proofs.addresses.iax.Goals as goal

pub returns : goal.returns
unfolding absolute_pointer
returns c = search accesses
