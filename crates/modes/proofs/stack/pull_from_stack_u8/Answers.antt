-- SP goes up, then one read at 0x100 + SP.
-- Assumes nothing.
use Rattle.std.proofs.Common.{◌≡◌, ℕ, ◌+◌, rules}
use Rattle.modes.specs.Stack.{pull}
use Rattle.memory.proofs.Laws.{accesses}
use Rattle.modes.proofs.Same.{same}
use Rattle.modes.proofs.stack.pull_from_stack_u8.Goals as goal

pub returns : goal.returns
unfolding pull
returns c = search (accesses, same)
