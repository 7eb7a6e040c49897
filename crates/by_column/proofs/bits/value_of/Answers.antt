-- One shifted by at most seven places stays below 256.
-- Assumes nothing.
use Rattle.std.proofs.Common.{◌^◌, ◌<◌, mod-eq_of_lt, one-mul, arith}
use lib.Pow.{pow-lt}
use Rattle.by_column.proofs.bits.value_of.Goals as goal

pub returns : goal.returns
returns c = let h : 2 ^ c.args.number < 256 = pow-lt {j = 8} (omega arith) in
    (simp (one-mul, mod-eq_of_lt), simp (one-mul, mod-eq_of_lt) (omega arith))
