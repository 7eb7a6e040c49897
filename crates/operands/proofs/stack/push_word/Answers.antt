-- Two pushes.
-- Assumes nothing.
use Rattle.memory.proofs.Laws.{accesses}
use Rattle.modes.specs.Stack.{push_word}
use Rattle.operands.proofs.stack.push_word.Goals as goal

pub returns : goal.returns
unfolding push_word
returns c = search accesses
