-- What the loop has done so far, on what registers and cells stand for, is the run of as many steps.
-- Assumes nothing.
use Rattle.std.proofs.Common.{◌≡◌, length}
use Rattle.instructions.proofs.SoFar.{SoFar}
use Rattle.registers.specs.Flat.{record_of}
use Rattle.cells.specs.Cells.{world_of}
use Rattle.long_runs.proofs.take_steps.Given as goal

abbrev pub invariant-loop-left : goal.invariant-loop-left
invariant-loop-left l = SoFar l.edition l.budget (record_of l.initial.next) (world_of l.initial.cells) (record_of l.next) l.left (world_of l.cells)

abbrev pub decreases-loop-left : goal.decreases-loop-left
decreases-loop-left l = l.left
