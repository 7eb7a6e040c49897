-- SP one more, in eight bits.
-- Assumes nothing.
use Rattle.operands.proofs.stack.raised.Goals as goal

pub returns : goal.returns
returns c = rw (c.with_sp.ensures, c.wrapping_add_u8.ensures.value)
