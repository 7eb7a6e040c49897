-- Two pulls, low byte first, the second from where the first left SP.
-- Assumes nothing.
use Rattle.std.proofs.Common.{rules}
use Rattle.modes.proofs.Same.{same}
use Rattle.memory.proofs.Laws.{accesses}
use Rattle.modes.specs.Stack.{pull_word}
use Rattle.modes.proofs.stack.pull_from_stack_u16.Goals as goal

pub returns : goal.returns
unfolding pull_word
returns c = search (accesses, same)
