-- The definition's difference is stored, and tested.
-- Assumes nothing.
use Rattle.std.proofs.Common.{◌≡◌, ℕ, not, eqb, rules}
use Rattle.processor.specs.declared.Processor.{Processor}
use Rattle.instructions.specs.Effects.{effect_of, branching}
use Rattle.instructions.specs.declared.Effect.{Effect}
use Rattle.instructions.specs.declared.Stores.TheVariants.{Byte}
use Rattle.effects.proofs.Made.{made}
use Rattle.effects.proofs.compares_and_pops.dbnz_memory.Goals as goal

-- a count that is stored and tested
counted : (at : ℕ) (cpu : Processor) {x : ℕ} (y : ℕ) {r : Effect}
    → x ≡ y → r ≡ branching (not (eqb x 0)) (Byte at x) cpu → r ≡ branching (not (eqb y 0)) (Byte at y) cpu
counted at cpu = made (λ x. branching (not (eqb x 0)) (Byte at x) cpu)

pub returns : goal.returns
unfolding effect_of
returns c = search counted
