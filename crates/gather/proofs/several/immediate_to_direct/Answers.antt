-- The immediate, then the target's address; nothing is read there.
-- Assumes nothing.
use borrow.Author.Rules.{rules}
use Rattle.memory.proofs.Laws.{accesses}
use Rattle.instructions.specs.Gather.{gather_of}
use Rattle.gather.proofs.several.immediate_to_direct.Goals as goal

pub returns : goal.returns
unfolding gather_of
returns c = search accesses
