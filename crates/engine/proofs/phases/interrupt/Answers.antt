-- The return PC, then the status byte, and PC goes to the target.
-- Assumes nothing.
use Rattle.memory.proofs.Laws.{accesses}
use Rattle.instructions.specs.Step.{commit_of}
use Rattle.engine.proofs.phases.interrupt.Goals as goal

pub returns : goal.returns
unfolding commit_of
returns c = search accesses
