-- A is stored as it is, and X is raised.
-- Assumes nothing.
use Rattle.std.proofs.Common.{◌≡◌, rules}
use Rattle.processor.specs.declared.Processor.{Processor}
use Rattle.instructions.specs.Effects.{effect_of, storing}
use Rattle.instructions.specs.declared.Effect.{Effect}
use Rattle.instructions.specs.declared.Stores.{Stores}
use Rattle.effects.proofs.Made.{made}
use Rattle.effects.proofs.jumps_and_calls.store_a_inc.Goals as goal

-- a store beside the registers that were made
stored : (stores : Stores) {x : Processor} (y : Processor) {r : Effect} → x ≡ y → r ≡ storing stores x → r ≡ storing stores y
stored stores = made (storing stores)

pub returns : goal.returns
unfolding effect_of
returns c = search stored
