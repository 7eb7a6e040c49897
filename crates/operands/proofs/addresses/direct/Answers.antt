-- P's bit of the page is 0x100 where it is set.
-- Assumes nothing.
use Rattle.operands.proofs.Laws.{page_bit}
use Rattle.operands.proofs.addresses.direct.Goals as goal

pub returns : goal.returns
returns c = rw (c.wrapping_add_u8-low.ensures.value, page_bit)
