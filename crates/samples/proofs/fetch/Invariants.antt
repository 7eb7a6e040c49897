-- The invariant is `Marking`: what is left to mark, from here on, makes the map what it is to be.
-- Assumes nothing.
use Rattle.samples.proofs.Marking.{Marking}
use Rattle.samples.proofs.fetch.Given as goal

abbrev pub invariant-loop-place : goal.invariant-loop-place
invariant-loop-place l = Marking l.n l.at l.writes l.initial.map l.map l.place
