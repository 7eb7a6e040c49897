-- One store at 0x100 + SP, then SP goes down.
-- Assumes nothing.
use Rattle.std.proofs.Common.{rules}
use Rattle.modes.proofs.Same.{same}
use Rattle.memory.proofs.Laws.{accesses}
use Rattle.modes.specs.Stack.{push}
use Rattle.modes.proofs.stack.push_to_stack_u8.Goals as goal

pub returns : goal.returns
unfolding push
returns c = search (accesses, same)
