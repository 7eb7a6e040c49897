-- One read, of the source.
-- Assumes nothing.
use borrow.Author.Rules.{rules}
use Rattle.memory.proofs.Laws.{accesses}
use Rattle.instructions.specs.Gather.{source_loaded}
use Rattle.gather.proofs.several.load_source.Goals as goal

pub returns : goal.returns
unfolding source_loaded
returns c = search accesses
