-- As for `lsr`; the old carry's bit comes in above.
-- Assumes nothing.
use Rattle.std.proofs.Common.{refl}
use Rattle.registers.proofs.Laws.{bit_number_lem, carrying}
use Rattle.registers.proofs.Registers.ror.Goals as goal

pub returns : goal.returns
returns c = rw (bit_number_lem c.args.self.c) (carrying _ c.nz.ensures c.with_c.ensures refl)
