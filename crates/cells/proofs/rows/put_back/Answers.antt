-- The memory and both maps, one after the other.
-- Assumes nothing.
use borrow.Author.Rules.{rules}
use Rattle.cells.proofs.Laws.{filled}
use Rattle.cells.proofs.rows.put_back.Goals as goal

pub returns : goal.returns
returns c = search (rules, filled)
