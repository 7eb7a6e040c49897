-- A read at PC.
-- Assumes nothing.
use Rattle.memory.proofs.Laws.{accesses}
use Rattle.modes.specs.Modes.{fetch}
use Rattle.operands.proofs.addresses.fetch.Goals as goal

pub returns : goal.returns
unfolding fetch
returns c = search accesses
