-- One cell: the byte, the stored mark, and the read mark that was there.
-- Assumes nothing.
use borrow.Author.Rules.{rules}
use Rattle.cells.proofs.Laws.{one_store}
use Rattle.cells.proofs.store.Goals as goal

pub returns : goal.returns
returns c = search (rules, one_store)
