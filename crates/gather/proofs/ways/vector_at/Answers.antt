-- One word is read, and is where to go.
-- Assumes nothing.
use borrow.Author.Rules.{rules}
use Rattle.memory.proofs.Laws.{accesses}
use Rattle.instructions.specs.Gather.{vector}
use Rattle.gather.proofs.ways.vector_at.Goals as goal

pub returns : goal.returns
unfolding vector
returns c = search accesses
