-- The invariant is `Giving`: what is left to store, from here on, makes the buffer what it is to be.
-- Assumes nothing.
use Rattle.surveyor.proofs.Giving.{Giving}
use Rattle.surveyor.proofs.give.Given as goal

abbrev pub invariant-loop-i : goal.invariant-loop-i
invariant-loop-i l = Giving l.numbers l.initial.out l.out l.i
