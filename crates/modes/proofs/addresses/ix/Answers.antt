-- X is placed in the direct page by `page`; nothing is read.
-- Assumes nothing.
use Rattle.std.proofs.Common.{rules}
use Rattle.modes.proofs.Same.{same}
use Rattle.memory.proofs.Laws.{accesses}
use Rattle.modes.proofs.addresses.ix.Goals as goal

pub returns : goal.returns
returns c = search (accesses, same)
