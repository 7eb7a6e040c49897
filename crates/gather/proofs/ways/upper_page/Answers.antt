-- One fetch; its byte, above 0xFF00, is where to go.
-- Assumes nothing.
use borrow.Author.Rules.{rules}
use Rattle.memory.proofs.Laws.{accesses}
use Rattle.instructions.specs.Gather.{gather_of}
use Rattle.gather.proofs.ways.upper_page.Goals as goal

pub returns : goal.returns
unfolding gather_of
returns c = search accesses
