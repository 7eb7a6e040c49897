-- Two pushes, high byte first, the second from where the first left SP.
-- Assumes nothing.
use Rattle.std.proofs.Common.{rules}
use Rattle.memory.proofs.Laws.{accesses}
use Rattle.modes.specs.Stack.{push_word}
use Rattle.modes.proofs.stack.push_to_stack_u16.Goals as goal

pub returns : goal.returns
unfolding push_word
returns c = search accesses
