-- To drop the top bit and double is to double and drop what passes eight bits; C is the top bit.
-- Assumes nothing.
use Rattle.std.proofs.Common.{◌≡◌, ◌+◌, ◌*◌, ◌%◌, arith}
use Rattle.registers.proofs.Laws.{top_bit, carrying}
use Rattle.registers.proofs.Registers.asl.Goals as goal

pub returns : goal.returns
returns c = let v = c.args.v in
    let doubled : (v * 2 + 0) % 256 ≡ v % 128 * 2 = omega arith in
    rw doubled (carrying _ c.nz.ensures c.with_c.ensures (top_bit 128 v (omega arith)))
