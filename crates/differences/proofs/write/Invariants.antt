-- The invariant is `Writing`: what is left to store, from here on, makes the row what it is to be.
-- Assumes nothing.
use Rattle.std.proofs.Common.{◌≡◌}
use Rattle.differences.specs.Walk.{left}
use Rattle.differences.proofs.Writing.{Writing}
use Rattle.differences.proofs.write.Given as goal

abbrev pub invariant-loop-i : goal.invariant-loop-i
invariant-loop-i l =
    Writing (left l.fn.stretches) l.initial.row l.row l.i-iterator.a.start (left l.i-iterator.b) × (l.i-iterator.a.end ≡ l.fn.many)
