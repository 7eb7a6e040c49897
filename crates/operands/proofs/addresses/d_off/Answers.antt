-- A fetch; `direct` places the byte.
-- Assumes nothing.
use Rattle.memory.proofs.Laws.{accesses}
use Rattle.modes.proofs.Same.{same}
use Rattle.modes.specs.Modes.{direct}
use Rattle.operands.proofs.addresses.d_off.Goals as goal

pub returns : goal.returns
unfolding direct
returns c = search (accesses, same)
