-- N Z are those that `set_nz_16le` gives of the word, and only A and Y change after it.
-- Assumes nothing.
use Rattle.std.proofs.Common.{◌≡◌, ℕ, rules}
use Rattle.processor.specs.Record.{with_ya}
use Rattle.processor.specs.declared.Processor.{Processor}
use Rattle.instructions.specs.Effects.{effect_of, registers}
use Rattle.instructions.specs.declared.Effect.{Effect}
use Rattle.effects.proofs.Made.{made}
use Rattle.effects.proofs.bits_and_words.load_ya.Goals as goal

-- the registers that were made, with A and Y anew
made_ya : (high low : ℕ) {x : Processor} (y : Processor) {r : Effect}
    → x ≡ y → r ≡ registers (with_ya high low x) → r ≡ registers (with_ya high low y)
made_ya high low = made (λ x. registers (with_ya high low x))

pub returns : goal.returns
unfolding effect_of
returns c = search made_ya
