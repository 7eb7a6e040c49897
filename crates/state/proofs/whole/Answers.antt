-- The record of the first seven bytes, in the state that the last one names.
-- Assumes nothing.
use Rattle.std.proofs.Common.{rules}
use Rattle.state.specs.Registers.{whole_of}
use Rattle.state.proofs.whole.Goals as goal

pub returns : goal.returns
unfolding whole_of
returns c = search rules
