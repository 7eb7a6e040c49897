-- C becomes the definition's, of C and the inverse of the bit that Mb names.
-- Assumes nothing.
use Rattle.std.proofs.Common.{rules}
use Rattle.instructions.specs.Effects.{effect_of}
use Rattle.effects.proofs.Made.{made_carry, bits}
use Rattle.effects.proofs.bits_and_words.and1_not.Goals as goal

pub returns : goal.returns
unfolding effect_of
returns c = search (made_carry, bits)
