-- The definition's byte, with the bit that Mb names as C is, is stored.
-- Assumes nothing.
use Rattle.std.proofs.Common.{rules}
use Rattle.instructions.specs.Effects.{effect_of}
use Rattle.effects.proofs.Made.{made_store}
use Rattle.effects.proofs.bits_and_words.store_c.Goals as goal

pub returns : goal.returns
unfolding effect_of
returns c = search made_store
