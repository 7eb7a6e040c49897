-- Both operand bytes are fetched before either address is read, and the source's comes first.
-- Assumes nothing.
use borrow.Author.Rules.{rules}
use Rattle.memory.proofs.Laws.{accesses}
use Rattle.instructions.specs.Gather.{gather_of}
use Rattle.gather.proofs.several.direct_direct.Goals as goal

pub returns : goal.returns
unfolding gather_of
returns c = search accesses
