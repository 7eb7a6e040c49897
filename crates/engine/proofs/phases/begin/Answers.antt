-- The opcode, then what its row reads.
-- Assumes nothing.
use Rattle.memory.proofs.Laws.{accesses}
use Rattle.instructions.specs.Step.{read_for, begin_of}
use Rattle.engine.proofs.phases.begin.Goals as goal

pub returns : goal.returns
unfolding read_for begin_of
returns c = search accesses
