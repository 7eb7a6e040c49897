-- V and H are stored as the definition has them, and nothing else is.
-- Assumes nothing.
use Rattle.std.proofs.Common.{refl}
use Rattle.effects.proofs.bits.without_vh.Goals as goal

pub returns : goal.returns
returns c = refl
