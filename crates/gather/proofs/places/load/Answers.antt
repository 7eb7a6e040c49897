-- One read, at the address that was found.
-- Assumes nothing.
use Rattle.instructions.specs.Gather.{loaded}
use borrow.Author.Rules.{rules}
use Rattle.memory.proofs.Laws.{accesses}
use Rattle.gather.proofs.places.load.Goals as goal

pub returns : goal.returns
unfolding loaded
returns c = search accesses
