-- The invariant is `SoFar`: each address is either kept or blanked and counted.
-- Assumes nothing.
use Rattle.blanking.proofs.Walk.{SoFar}
use Rattle.blanking.proofs.blank.Given as goal

abbrev pub invariant-loop-at : goal.invariant-loop-at
invariant-loop-at l = SoFar l.map l.byte l.initial.memory l.memory l.blanked l.at
