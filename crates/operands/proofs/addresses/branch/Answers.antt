-- Taken, a fetch and the jump; else PC alone moves.
-- Assumes nothing.
use Rattle.memory.proofs.Laws.{accesses}
use Rattle.memory.specs.Access.{then}
use Rattle.modes.specs.Branches.{branched}
use Rattle.instructions.specs.Step.{finish_of, commit_of, branch_of}
use Rattle.operands.proofs.addresses.branch.Goals as goal

pub returns-then-taken : goal.returns-then-taken
unfolding finish_of commit_of branch_of branched then
returns-then-taken c = rw (c.if-taken.true, c.jump.ensures, c.displaced.ensures, c.past-next.ensures) (search accesses)

pub returns : goal.returns
unfolding finish_of commit_of branch_of then
returns c = rw (c.if-taken.false, c.past-next.ensures) (search accesses)
