-- Phases by cases.
-- Assumes nothing.
use mathlib.Core.Path.{◌≡◌}
use mathlib.Core.Bool.{Bool}
use Rattle.memory.specs.World.{World}
use Rattle.memory.specs.Access.{Outcome, Does}
use Rattle.processor.specs.declared.Processor.{Processor}
use Rattle.instructions.specs.Step.{commit_of, branch_of}
use Rattle.instructions.specs.declared.Stores.{Stores}

-- A phase goes by the case that is known: of what is to be stored, and of whether a branch is taken.
pub commit_as : (s case : Stores) (cpu : Processor) {w : World} {o : Outcome World Processor}
    → s ≡ case → Does (commit_of case cpu) w o → Does (commit_of s cpu) w o
commit_as s case cpu e does = rw e does

pub branch_as : (b case : Bool) (cpu : Processor) {w : World} {o : Outcome World Processor}
    → b ≡ case → Does (branch_of case cpu) w o → Does (branch_of b cpu) w o
branch_as b case cpu e does = rw e does
