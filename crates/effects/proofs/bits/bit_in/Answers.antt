-- 2 ^ (opcode / 32) is at most 128, so the shift of 1 loses nothing of it.
-- Assumes nothing.
use Rattle.std.proofs.Common.{◌/◌, ◌^◌, ◌<◌, mod-eq_of_lt, one-mul, arith, rules}
use lib.Pow.{pow-lt}
use Rattle.effects.proofs.bits.bit_in.Goals as goal

pub returns : goal.returns
returns c = let h : 2 ^ (c.args.opcode / 32) < 256 = pow-lt {j = 8} (omega arith) in simp (one-mul, mod-eq_of_lt)
