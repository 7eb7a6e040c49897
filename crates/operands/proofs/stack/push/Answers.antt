-- A store at SP, which then goes down.
-- Assumes nothing.
use Rattle.memory.proofs.Laws.{accesses}
use Rattle.modes.specs.Stack.{push}
use Rattle.operands.proofs.stack.push.Goals as goal

pub returns : goal.returns
unfolding push
returns c = rw (c.with_sp.ensures, c.difference.ensures) (search accesses)
