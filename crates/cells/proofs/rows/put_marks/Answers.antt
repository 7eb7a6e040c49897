-- Byte by byte, the map is filled with the marks of eight addresses.
-- Assumes nothing.
use Rattle.std.proofs.Common.{arith}
use Rattle.cells.proofs.Values.{are_values}
use Rattle.cells.proofs.rows.put_marks.Goals as goal

pub returns : goal.returns
returns c = let all = c.loop-i.invariant in are_values _ _ _ all.size (λ i h. all.filled i (omega arith))
