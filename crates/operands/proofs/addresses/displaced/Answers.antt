-- What passes 65,536 falls out.
-- Assumes nothing.
use Rattle.operands.proofs.Laws.{lands}
use Rattle.operands.proofs.addresses.displaced.Goals as goal

pub returns : goal.returns
returns c = rw (c.wrapping_add_u16-2.ensures.value, c.wrapping_add_u16.ensures.value, c.wrapping_add_u8-up.ensures.value) (lands c.args.pc c.args.byte c.ranges.byte.fits)
