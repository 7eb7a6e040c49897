-- The definition's byte is stored.
-- Assumes nothing.
use Rattle.std.proofs.Common.{rules}
use Rattle.instructions.specs.Effects.{effect_of}
use Rattle.effects.proofs.bits_and_words.not1.Goals as goal

pub returns : goal.returns
unfolding effect_of
returns c = search rules
