-- Added up is what each mode takes, which is never more than two bytes.
-- Assumes nothing.
use Rattle.std.proofs.Common.{◌≡◌, ◌≤◌, sum_by, refl, arith, rules}
use Rattle.opcode_data.specs.Format.{takes, taken}
use Rattle.opcode_data.specs.declared.AddressMode.{AddressMode}
use Rattle.opcode_data.proofs.Lists.{summed, two_each}
use Rattle.opcode_data.proofs.format.taken.Goals as goal

at_most_two : (m : AddressMode) → takes m ≤ 2
at_most_two m = grind arith

pub returns : goal.returns
returns c =
    let ms = c.args.modes.now in
    let added : c.sum.result ≡ sum_by takes ms = search rules in
    let all = summed takes taken refl (λ m ms. refl) ms in
    (cc, omega (arith, two_each takes taken refl (λ m ms. refl) at_most_two ms))
