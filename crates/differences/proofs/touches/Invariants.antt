-- From each address on as much is touched as by the whole stretch.
-- Assumes nothing.
use Rattle.marks.specs.Maps.{is_marked}
use Rattle.differences.proofs.Looks.{Looking}
use Rattle.differences.proofs.touches.Given as goal

abbrev pub invariant-loop-at : goal.invariant-loop-at
invariant-loop-at l = Looking (is_marked l.map) l.fn.stretch l.at
