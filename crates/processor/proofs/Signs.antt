-- Of two bytes below 128 the signed sum is the sum, and too large where it is no byte below 128; of two others it lies 512 below, and is
-- too small where the byte is below 128; of one of each it always fits.
-- Assumes nothing.
use Rattle.std.proofs.Common.{◌≡◌, ℕ, ◌+◌, ◌%◌, ◌<◌, ◌≤◌, not, ◌&&◌, ltb, arith}
use Rattle.std.proofs.lemmas.Grind.{common_steps}
use mathlib.Core.Bool.{beq}
use Rattle.processor.specs.Sums.{leaves}

pub by_signs : (l r carry byte : ℕ) → l < 256 → r < 256 → carry ≤ 1 → byte ≡ (l + r + carry) % 256
    → (beq (ltb l 128) (ltb r 128) && not (beq (ltb l 128) (ltb byte 128))) ≡ leaves l r carry
unfolding leaves
by_signs l r carry byte h g k e = grind (arith, common_steps)
