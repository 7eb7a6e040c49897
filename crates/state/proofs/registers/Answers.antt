-- Each register is its byte; PC and the status word are what the calls give.
-- Assumes nothing.
use Rattle.std.proofs.Common.{rules}
use Rattle.state.specs.Registers.{registers_of}
use Rattle.state.proofs.registers.Goals as goal

pub returns : goal.returns
unfolding registers_of
returns c = search rules
