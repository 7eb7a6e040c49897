-- Two fetches, the second from where the first left PC.
-- Assumes nothing.
use Rattle.std.proofs.Common.{rules}
use Rattle.modes.proofs.Same.{same}
use Rattle.memory.proofs.Laws.{accesses}
use Rattle.modes.specs.Modes.{fetch_word}
use Rattle.modes.proofs.addresses.fetch_u16.Goals as goal

pub returns : goal.returns
unfolding fetch_word
returns c = search (accesses, same)
