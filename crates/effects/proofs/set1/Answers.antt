-- The definition's byte, whose bit the opcode names, is stored.
-- Assumes nothing.
use Rattle.std.proofs.Common.{rules}
use Rattle.instructions.specs.Effects.{effect_of}
use Rattle.effects.proofs.Made.{made_store, bits}
use Rattle.effects.proofs.set1.Goals as goal

pub returns : goal.returns
unfolding effect_of
returns c = search (made_store, bits)
