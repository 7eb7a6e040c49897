-- The definition goes by the same flag: a branch that is not taken moves PC as `past` does.
-- Assumes nothing.
use Rattle.std.proofs.Common.{◌≡◌, Bool, true, false, rules}
use Rattle.processor.specs.declared.Processor.{Processor}
use Rattle.modes.specs.Addresses.{onward}
use Rattle.instructions.specs.Effects.{effect, branching}
use Rattle.instructions.specs.declared.Stores.{Stores}
use Rattle.effects.proofs.kinds.branching.Goals as goal

-- a branch that is taken; one that is not
goes : (b : Bool) (stores : Stores) (cpu : Processor) → b ≡ true → effect cpu stores true ≡ branching b stores cpu
goes b stores cpu e = rw e

stays : (b : Bool) (stores : Stores) {next : Processor} (cpu : Processor)
    → b ≡ false → next ≡ onward cpu → effect next stores false ≡ branching b stores cpu
stays b stores cpu e f = rw (e, f)

pub returns-then-taken : goal.returns-then-taken
returns-then-taken c = search goes

pub returns : goal.returns
returns c = search stays
