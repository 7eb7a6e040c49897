-- PC gives its two bytes; the others are the registers and the status byte, as they come.
-- Assumes nothing.
use Rattle.std.proofs.Common.{rules}
use Rattle.state.specs.Registers.{bytes_of}
use Rattle.state.proofs.bytes_of.Goals as goal

pub returns : goal.returns
unfolding bytes_of
returns c = search rules
