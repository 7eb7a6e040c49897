-- What is summed, and what the bits that are left have still to bring, make the product; the measure is what is left of `a`, which each
-- round halves.
-- Assumes nothing.
use Rattle.std.proofs.Common.{◌≡◌, ◌+◌, ◌*◌}
use Rattle.processor.proofs.products.times.Given as goal

abbrev pub invariant-loop-bits : goal.invariant-loop-bits
invariant-loop-bits l = l.sum + l.shifted * l.bits ≡ l.y * l.a

abbrev pub decreases-loop-bits : goal.decreases-loop-bits
decreases-loop-bits l = l.bits
