-- A fetch; the byte is placed in the direct page by `page`.
-- Assumes nothing.
use Rattle.std.proofs.Common.{rules}
use Rattle.modes.proofs.Same.{same}
use Rattle.memory.proofs.Laws.{accesses}
use Rattle.modes.specs.Modes.{direct}
use Rattle.modes.proofs.addresses.d_off.Goals as goal

pub returns : goal.returns
unfolding direct
returns c = search (accesses, same)
