-- A takes what `mov` produced, and X is raised after it.
-- Assumes nothing.
use Rattle.std.proofs.Common.{◌≡◌, rules}
use Rattle.processor.specs.declared.Processor.{Processor}
use Rattle.processor.specs.declared.Produced.{Produced}
use Rattle.instructions.specs.Effects.{effect_of, into_a, raised_x}
use Rattle.effects.proofs.Made.{made, made_registers}
use Rattle.effects.proofs.jumps_and_calls.load_a_inc.Goals as goal

-- X raised after what was made went into A
raised : {x : Produced} (y : Produced) {cpu : Processor} → x ≡ y → cpu ≡ raised_x (into_a x).cpu → cpu ≡ raised_x (into_a y).cpu
raised = made (λ x. raised_x (into_a x).cpu)

pub returns : goal.returns
unfolding effect_of
returns c = search (made_registers, raised)
