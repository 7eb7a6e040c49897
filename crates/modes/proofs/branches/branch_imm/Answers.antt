-- The displacement is fetched, and leads from the PC behind it.
-- Assumes nothing.
use Rattle.std.proofs.Common.{rules}
use Rattle.modes.proofs.Same.{same}
use Rattle.memory.proofs.Laws.{accesses}
use Rattle.modes.specs.Branches.{branched}
use Rattle.modes.proofs.branches.branch_imm.Goals as goal

pub returns : goal.returns
unfolding branched
returns c = search (accesses, same)
