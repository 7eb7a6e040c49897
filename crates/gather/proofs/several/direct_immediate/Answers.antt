-- The immediate, then the target's address, then a read there.
-- Assumes nothing.
use borrow.Author.Rules.{rules}
use Rattle.memory.proofs.Laws.{accesses}
use Rattle.instructions.specs.Gather.{gather_of}
use Rattle.gather.proofs.several.direct_immediate.Goals as goal

pub returns : goal.returns
unfolding gather_of
returns c = search accesses
