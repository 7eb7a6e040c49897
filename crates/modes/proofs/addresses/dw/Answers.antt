-- A fetch; both addresses are placed in the direct page by `page`, so that the second wraps inside it.
-- Assumes nothing.
use Rattle.std.proofs.Common.{rules}
use Rattle.modes.proofs.Same.{same}
use Rattle.memory.proofs.Laws.{accesses}
use Rattle.modes.specs.Modes.{direct_word}
use Rattle.modes.proofs.addresses.dw.Goals as goal

pub returns : goal.returns
unfolding direct_word
returns c = search (accesses, same)
