-- The definition's own store.
-- Assumes nothing.
use Rattle.std.proofs.Common.{rules}
use Rattle.instructions.specs.Effects.{effect_of}
use Rattle.effects.proofs.call.Goals as goal

pub returns : goal.returns
unfolding effect_of
returns c = search rules
