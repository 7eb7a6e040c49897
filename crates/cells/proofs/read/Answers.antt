-- A first touch sets the cell's read mark; a later read leaves the cell.
-- Assumes nothing.
use borrow.Author.Rules.{rules}
use Rattle.cells.proofs.Laws.{first_read, later_read}
use Rattle.cells.proofs.read.Goals as goal

pub returns-then-cell-eq0 : goal.returns-then-cell-eq0
returns-then-cell-eq0 c = search (rules, first_read)

pub returns : goal.returns
returns c = search (rules, later_read)
