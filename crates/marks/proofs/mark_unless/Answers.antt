-- One bit, less those of the other map's byte, is that bit or nothing; nothing more in a byte leaves the map as it is.
-- Assumes nothing.
use borrow.Author.Rules.{rules}
use Rattle.marks.proofs.Laws.{unless}
use Rattle.marks.proofs.mark_unless.Goals as goal

pub returns : goal.returns
returns c = search (rules, unless)
