-- The definition's difference goes into Y, and is tested.
-- Assumes nothing.
use Rattle.std.proofs.Common.{◌≡◌, ℕ, not, eqb, rules}
use Rattle.processor.specs.Record.{with_y}
use Rattle.processor.specs.declared.Processor.{Processor}
use Rattle.instructions.specs.Effects.{effect_of, branching}
use Rattle.instructions.specs.declared.Effect.{Effect}
use Rattle.instructions.specs.declared.Stores.TheVariants.{Nothing}
use Rattle.effects.proofs.Made.{made}
use Rattle.effects.proofs.compares_and_pops.dbnz_y.Goals as goal

-- a count that goes into Y and is tested
counted : (cpu : Processor) {x : ℕ} (y : ℕ) {r : Effect}
    → x ≡ y → r ≡ branching (not (eqb x 0)) Nothing (with_y x cpu) → r ≡ branching (not (eqb y 0)) Nothing (with_y y cpu)
counted cpu = made (λ x. branching (not (eqb x 0)) Nothing (with_y x cpu))

pub returns : goal.returns
unfolding effect_of
returns c = search counted
