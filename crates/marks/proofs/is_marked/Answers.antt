-- `&` with the address's one bit leaves that bit alone, and so gives 0 just where the address is not marked.
-- Assumes nothing.
use Rattle.marks.proofs.Laws.{is_marked_is}
use Rattle.marks.proofs.is_marked.Goals as goal

pub returns : goal.returns
returns c = rw (is_marked_is, c.bit_of.ensures)
