-- Two reads, one after the other, the second at the next address.
-- Assumes nothing.
use Rattle.std.proofs.Common.{rules}
use Rattle.memory.proofs.Laws.{accesses}
use Rattle.memory.specs.Access.{perform}
use Rattle.memory.specs.Words.{read_word}
use Rattle.memory.proofs.Reading.read_u16.Goals as goal

pub returns : goal.returns
unfolding read_word perform
returns c = search accesses
