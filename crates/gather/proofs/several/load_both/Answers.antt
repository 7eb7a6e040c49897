-- Two reads, the source's first.
-- Assumes nothing.
use borrow.Author.Rules.{rules}
use Rattle.memory.proofs.Laws.{accesses}
use Rattle.instructions.specs.Gather.{both_loaded}
use Rattle.gather.proofs.several.load_both.Goals as goal

pub returns : goal.returns
unfolding both_loaded
returns c = search accesses
