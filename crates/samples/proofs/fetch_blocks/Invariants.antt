-- The invariant is `Stepping`: the blocks that are left, from here on, make the map what it is to be.
-- Assumes nothing.
use Rattle.samples.proofs.Stepping.{Stepping}
use Rattle.samples.proofs.fetch_blocks.Given as goal

abbrev pub invariant-loop : goal.invariant-loop
invariant-loop l = Stepping 65536 l.start l.memory l.writes l.initial.map l.map l.counter l.at
