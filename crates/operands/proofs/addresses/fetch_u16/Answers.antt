-- Two fetches, the second behind the first.
-- Assumes nothing.
use Rattle.std.proofs.Common.{ap}
use Rattle.memory.proofs.Laws.{chain, ends}
use Rattle.modes.specs.Modes.{fetch_word}
use Rattle.registers.specs.Flat.{record_of}
use Rattle.operands.proofs.Laws.{fetch_as}
use Rattle.operands.proofs.addresses.fetch_u16.Goals as goal

pub returns : goal.returns
unfolding fetch_word
returns c = rw c.word.ensures
    (chain _ c.fetch-low.ensures (chain _ (fetch_as (ap record_of c.past.ensures) c.fetch-high.ensures) ends))
