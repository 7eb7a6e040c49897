-- The definition's own test of the bit that the opcode names.
-- Assumes nothing.
use Rattle.std.proofs.Common.{rules}
use Rattle.instructions.specs.Effects.{effect_of}
use Rattle.effects.proofs.Made.{made_branch, bits}
use Rattle.effects.proofs.bbc.Goals as goal

pub returns : goal.returns
unfolding effect_of
returns c = search (made_branch, bits)
