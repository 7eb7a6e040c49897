-- The wrapping sum is the definition's own.
-- Assumes nothing.
use Rattle.std.proofs.Common.{rules}
use Rattle.modes.proofs.Same.{same}
use Rattle.memory.proofs.Laws.{accesses}
use Rattle.modes.proofs.addresses.past.Goals as goal

pub returns : goal.returns
returns c = search (accesses, same)
