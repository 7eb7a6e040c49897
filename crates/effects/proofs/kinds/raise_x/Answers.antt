-- The sum wraps as the definition's does.
-- Assumes nothing.
use Rattle.std.proofs.Common.{rules}
use Rattle.effects.proofs.kinds.raise_x.Goals as goal

pub returns : goal.returns
returns c = rw c.wrapping_add_u8.ensures.value
