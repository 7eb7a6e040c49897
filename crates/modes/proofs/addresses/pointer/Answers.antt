-- Two reads, the second where the edition says, and the index added to what they make.
-- Assumes nothing.
use Rattle.std.proofs.Common.{rules}
use Rattle.modes.proofs.Same.{same}
use Rattle.memory.proofs.Laws.{accesses}
use Rattle.modes.specs.Modes.{pointed}
use Rattle.modes.proofs.addresses.pointer.Goals as goal

pub returns : goal.returns
unfolding pointed
returns c = rw c.word.ensures (search (accesses, same))
