-- Both addresses; nothing is read there.
-- Assumes nothing.
use borrow.Author.Rules.{rules}
use Rattle.memory.proofs.Laws.{accesses}
use Rattle.instructions.specs.Gather.{gather_of}
use Rattle.gather.proofs.several.to_direct_word.Goals as goal

pub returns : goal.returns
unfolding gather_of
returns c = search accesses
