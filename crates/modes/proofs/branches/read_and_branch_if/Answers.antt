-- The test is the definition's own: a taken branch is `branch_imm`, any other touches no memory.
-- Assumes nothing.
use Rattle.std.proofs.Common.{◌≡◌, Bool, rules}
use Rattle.memory.specs.World.{World}
use Rattle.memory.specs.Access.{Outcome, Does}
use Rattle.processor.specs.declared.Processor.{Processor}
use Rattle.modes.specs.Branches.{branched_if}
use Rattle.memory.proofs.Laws.{accesses}
use Rattle.modes.proofs.branches.read_and_branch_if.Goals as goal

by_test : (test case : Bool) (cpu : Processor) {w : World} {o : Outcome World Processor}
    → test ≡ case → Does (branched_if case cpu) w o → Does (branched_if test cpu) w o
by_test test case cpu e does = rw e does

pub returns-then-test : goal.returns-then-test
unfolding branched_if
returns-then-test c = search (accesses, by_test)

pub returns : goal.returns
unfolding branched_if
returns c = search (accesses, by_test)
