-- The modes of the opcode's data are those of the definition, and its own byte is one more.
-- Assumes nothing.
use Rattle.std.proofs.Common.{◌≡◌, ℕ, ◌+◌, rules}
use Rattle.opcode_data.specs.declared.OpcodeData.{OpcodeData}
use Rattle.opcode_data.specs.Data.{data_of}
use Rattle.opcode_data.specs.Lists.{list_of}
use Rattle.listing.specs.Operands.{filled}
use Rattle.listing.specs.Instruction.{length_of}
use Rattle.listing.proofs.Operands.{all_filled}
use Rattle.listing.proofs.length.Goals as goal

-- the opcode, and the bytes that its modes fill
one_more : (opcode n : ℕ) (d : OpcodeData) → d ≡ data_of opcode → n ≡ filled (list_of d.modes) → 1 + n ≡ length_of opcode
unfolding length_of
one_more opcode n d e f = rw (all_filled, f, e)

pub returns : goal.returns
returns c = search (rules, one_more)
