-- Both addresses come from registers, so that the two reads of `load_both` are all.
-- Assumes nothing.
use mathlib.Core.Path.{◌≡◌}
use borrow.Author.Rules.{rules}
use Rattle.memory.specs.World.{World}
use Rattle.memory.specs.Access.{Outcome, Does}
use Rattle.processor.specs.declared.Processor.{Processor}
use Rattle.modes.specs.Modes.{indirect}
use Rattle.modes.specs.declared.Addressed.{Addressed}
use Rattle.instructions.specs.Rows.Mode.{at_x_at_y}
use Rattle.instructions.specs.declared.Operands.{Operands}
use Rattle.instructions.specs.Gather.{both_loaded, gather_of}
use Rattle.gather.specs.Columns.{plainly}
use Rattle.gather.proofs.several.at_x_at_y.Goals as goal

from_registers : (cpu : Processor) {f g : Addressed} {w : World} {o : Outcome World Operands}
    → f ≡ indirect cpu.y cpu → g ≡ indirect cpu.x cpu → Does (both_loaded f.at g) w o → Does (plainly at_x_at_y cpu) w o
unfolding gather_of
from_registers cpu e h does = rw (e, h) at does

pub returns : goal.returns
returns c = search (rules, from_registers)
