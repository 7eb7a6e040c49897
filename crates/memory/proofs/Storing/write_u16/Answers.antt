-- Two stores, one after the other, the second at the next address.
-- Assumes nothing.
use Rattle.std.proofs.Common.{rules}
use Rattle.memory.proofs.Laws.{accesses}
use Rattle.memory.specs.Access.{perform}
use Rattle.memory.specs.Words.{write_word}
use Rattle.memory.proofs.Storing.write_u16.Goals as goal

pub returns : goal.returns
unfolding write_word perform
returns c = search accesses
