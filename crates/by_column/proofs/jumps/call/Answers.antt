-- PC is pushed, and then it is the address.
-- Assumes nothing.
use Rattle.memory.proofs.Laws.{chain, ends}
use Rattle.modes.specs.Stack.{called}
use Rattle.by_column.proofs.jumps.call.Goals as goal

pub returns : goal.returns
unfolding called
returns c = rw c.jump.ensures (chain _ c.push_word.ensures ends)
