-- So many bytes of the map are put together with the other.
-- Assumes nothing.
use Rattle.std.proofs.Common.{◌≡◌, take}
use Rattle.blanking.specs.Together.{together}
use Rattle.blanking.proofs.join.Given as goal

abbrev pub invariant-loop-i : goal.invariant-loop-i
invariant-loop-i l = l.other ≡ together (take l.i l.map) l.initial.other
