-- What was read stands within the buffer, and the loop ends because less of it is left with each read.
use Rattle.std.proofs.Common.{length, ◌-◌, ◌≤◌}
use Rattle.output.proofs.read_full.Given as goal

abbrev pub invariant-loop-n : goal.invariant-loop-n
invariant-loop-n g l = l.n ≤ length l.initial.buffer

abbrev pub decreases-loop-n : goal.decreases-loop-n
decreases-loop-n g l = length l.initial.buffer - l.n
