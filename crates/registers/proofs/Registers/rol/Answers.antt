-- As for `asl`; the old carry's bit comes in below.
-- Assumes nothing.
use Rattle.std.proofs.Common.{◌≡◌, ◌+◌, ◌*◌, ◌%◌, arith}
use Rattle.registers.proofs.Laws.{bit_number_lem, top_bit, carrying}
use Rattle.registers.proofs.Registers.rol.Goals as goal

pub returns : goal.returns
returns c = let v = c.args.v in
    let bit = c.args.self.c in
    let doubled : (v * 2 + bit % 2) % 256 ≡ v % 128 * 2 + bit % 2 = omega arith in
    rw (bit_number_lem bit, doubled) (carrying _ c.nz.ensures c.with_c.ensures (top_bit 128 v (omega arith)))
