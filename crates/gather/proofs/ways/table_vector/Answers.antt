-- The address is the definition's own, and `vector_at` reads the word there.
-- Assumes nothing.
use borrow.Author.Rules.{rules}
use Rattle.memory.proofs.Laws.{accesses}
use Rattle.gather.proofs.ways.table_vector.Goals as goal

pub returns : goal.returns
returns c = search accesses
