-- PC gives its two bytes; the others are the registers and the status byte, as they come.
-- Assumes nothing.
use Rattle.std.proofs.Common.{rules}
use Rattle.spc_file.specs.Layout.{record_bytes}
use Rattle.spc_file.proofs.record_bytes.Goals as goal

pub returns : goal.returns
unfolding record_bytes
returns c = search rules
