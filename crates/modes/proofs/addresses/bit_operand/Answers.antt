-- The operand word is fetched, and taken apart.
-- Assumes nothing.
use Rattle.std.proofs.Common.{rules}
use Rattle.memory.proofs.Laws.{accesses}
use Rattle.modes.specs.Modes.{bit_operand}
use Rattle.modes.proofs.addresses.bit_operand.Goals as goal

pub returns : goal.returns
unfolding bit_operand
returns c = search accesses
