-- The address is PC, which then moves on.
-- Assumes nothing.
use Rattle.std.proofs.Common.{rules}
use Rattle.modes.proofs.Same.{same}
use Rattle.memory.proofs.Laws.{accesses}
use Rattle.modes.proofs.addresses.imm.Goals as goal

pub returns : goal.returns
returns c = search (accesses, same)
