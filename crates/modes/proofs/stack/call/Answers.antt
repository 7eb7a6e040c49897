-- PC is pushed, then replaced.
-- Assumes nothing.
use Rattle.std.proofs.Common.{rules}
use Rattle.memory.proofs.Laws.{accesses}
use Rattle.modes.specs.Stack.{called}
use Rattle.modes.proofs.stack.call.Goals as goal

pub returns : goal.returns
unfolding called
returns c = search accesses
