-- Each register is its byte; PC and the status word are what the calls give.
-- Assumes nothing.
use Rattle.std.proofs.Common.{rules}
use Rattle.spc_file.specs.Layout.{record_in}
use Rattle.spc_file.proofs.record_in.Goals as goal

pub returns : goal.returns
unfolding record_in
returns c = search rules
