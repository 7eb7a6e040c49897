-- Added up is what each mode fills, which is never more than two bytes.
-- Assumes nothing.
use Rattle.std.proofs.Common.{◌≡◌, ◌≤◌, sum_by, refl, arith, rules}
use Rattle.opcode_data.specs.declared.AddressMode.{AddressMode}
use Rattle.opcode_data.proofs.Lists.{summed, two_each}
use Rattle.listing.specs.Operands.{fills, filled}
use Rattle.listing.proofs.filled.Goals as goal

at_most_two : (m : AddressMode) → fills m ≤ 2
at_most_two m = grind arith

pub returns : goal.returns
returns c =
    let ms = c.args.modes.now in
    let added : c.sum.result ≡ sum_by fills ms = search rules in
    let all = summed fills filled refl (λ m ms. refl) ms in
    (cc, omega (arith, two_each fills filled refl (λ m ms. refl) at_most_two ms))
