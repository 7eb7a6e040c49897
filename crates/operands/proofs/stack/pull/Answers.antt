-- A read one place above SP.
-- Assumes nothing.
use Rattle.memory.proofs.Laws.{accesses}
use Rattle.modes.specs.Stack.{pull}
use Rattle.operands.proofs.stack.pull.Goals as goal

pub returns : goal.returns
unfolding pull
returns c = rw (← c.wrapping_add_u8.ensures.value) (search accesses)
