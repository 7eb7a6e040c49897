-- The address and the bit's number, then a read at the address.
-- Assumes nothing.
use borrow.Author.Rules.{rules}
use Rattle.instructions.specs.Gather.{gather_of}
use Rattle.memory.proofs.Laws.{accesses}
use Rattle.instructions.proofs.Same.{same_operands}
use Rattle.gather.proofs.several.memory_bit.Goals as goal

pub returns : goal.returns
unfolding gather_of
returns c = search (accesses, same_operands)
