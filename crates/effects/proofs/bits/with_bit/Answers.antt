-- The definition goes by the same flag.
-- Assumes nothing.
use Rattle.std.proofs.Common.{rules}
use Rattle.effects.proofs.bits.with_bit.Goals as goal

pub returns-then-on : goal.returns-then-on
returns-then-on c = rw c.if-on.true

pub returns-else-on : goal.returns-else-on
returns-else-on c = rw c.if-on.false
