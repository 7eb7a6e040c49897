-- The loop's invariant: after i bytes of each map the three sums are how many of their addresses are marked in each way.
-- Assumes nothing.
use Rattle.std.proofs.Common.{length}
use Rattle.marks.proofs.Counting.{SoFar}
use Rattle.marks.proofs.counts.Given as goal

abbrev pub invariant-loop-read : goal.invariant-loop-read
invariant-loop-read l = SoFar l.reads l.writes l.counted (length l.yielded)
