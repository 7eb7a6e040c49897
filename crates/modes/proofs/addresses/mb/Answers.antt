-- The operand, then a read where it points.
-- Assumes nothing.
use Rattle.std.proofs.Common.{rules}
use Rattle.modes.proofs.Same.{same}
use Rattle.memory.proofs.Laws.{accesses}
use Rattle.modes.specs.Modes.{bit_read}
use Rattle.modes.proofs.addresses.mb.Goals as goal

pub returns : goal.returns
unfolding bit_read
returns c = search (accesses, same)
