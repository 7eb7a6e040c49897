-- One shifted by at most seven places stays below 256.
-- Assumes nothing.
use Prim.Native.Nat.{◌^◌, ◌<◌}
use native.Mathlib.Nat.{one-mul, mod-eq_of_lt}
use native.Mathlib.Omega.{arith}
use lib.Pow.{pow-lt}
use borrow.Author.Rules.{rules}
use Rattle.gather.proofs.several.bit_value.Goals as goal

pub returns : goal.returns
returns c = let h : 2 ^ c.args.bit < 256 = pow-lt {j = 8} (omega arith) in simp (one-mul, mod-eq_of_lt)
