-- Taken, it is the branch itself; else nothing is done.
-- Assumes nothing.
use Rattle.instructions.specs.Step.{branch_of}
use Rattle.memory.proofs.Laws.{accesses}
use Rattle.engine.proofs.Laws.{branch_as}
use Rattle.engine.proofs.phases.branch.Goals as goal

pub returns-then-taken : goal.returns-then-taken
unfolding branch_of
returns-then-taken c = search (accesses, branch_as)

pub returns : goal.returns
unfolding branch_of
returns c = search (accesses, branch_as)
