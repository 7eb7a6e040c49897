-- Two reads, the second at the next address.
-- Assumes nothing.
use Rattle.memory.proofs.Laws.{accesses}
use Rattle.memory.specs.Words.{read_word}
use Rattle.operands.proofs.addresses.read_u16.Goals as goal

pub returns : goal.returns
unfolding read_word
returns c = search accesses
