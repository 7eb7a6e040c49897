-- Two pulls, the word's from where the byte's left SP.
-- Assumes nothing.
use borrow.Author.Rules.{rules}
use Rattle.memory.proofs.Laws.{accesses}
use Rattle.instructions.specs.Gather.{gather_of}
use Rattle.gather.proofs.ways.pulled_three.Goals as goal

pub returns : goal.returns
unfolding gather_of
returns c = search accesses
