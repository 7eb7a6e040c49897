-- Each letter is turned into its mode, and those that are no blank are counted.
-- Assumes nothing.
use Rattle.std.proofs.Common.{◌≡◌, eqb, not, count_by, rules}
use Rattle.opcode_data.specs.Cells.{mode_of}
use Rattle.opcode_data.specs.declared.AddressMode.TheVariants.{A}
use Rattle.opcode_data.proofs.Mapped.{mapped}
use Rattle.opcode_data.proofs.grid.operands.Goals as goal

pub returns : goal.returns
returns c =
    let three =
    mapped (λ letter. mode_of letter c.args.opcode) _ _ (λ x y left called. search rules) _ _ 0 A (search rules) c.map.ensures.items in
    let count : c.count.result ≡ count_by (λ letter. not (eqb letter 32)) c.args.letters = search rules in
    cc
