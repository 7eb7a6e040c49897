-- One read at PC, then PC moves on.
-- Assumes nothing.
use Rattle.std.proofs.Common.{rules}
use Rattle.modes.proofs.Same.{same}
use Rattle.memory.proofs.Laws.{accesses}
use Rattle.modes.specs.Modes.{fetch}
use Rattle.modes.proofs.addresses.fetch_u8.Goals as goal

pub returns : goal.returns
unfolding fetch
returns c = search (accesses, same)
