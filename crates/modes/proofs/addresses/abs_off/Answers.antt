-- The operand word is fetched, and the index added to it.
-- Assumes nothing.
use Rattle.std.proofs.Common.{rules}
use Rattle.modes.proofs.Same.{same}
use Rattle.memory.proofs.Laws.{accesses}
use Rattle.modes.specs.Modes.{absolute}
use Rattle.modes.proofs.addresses.abs_off.Goals as goal

pub returns : goal.returns
unfolding absolute
returns c = search (accesses, same)
