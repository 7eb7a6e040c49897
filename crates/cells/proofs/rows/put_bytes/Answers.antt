-- Byte by byte, the memory is filled with the low bytes.
-- Assumes nothing.
use Rattle.std.proofs.Common.{arith}
use Rattle.cells.proofs.Values.{are_values}
use Rattle.cells.proofs.rows.put_bytes.Goals as goal

pub returns : goal.returns
returns c = let all = c.loop-k.invariant in are_values _ _ _ all.size (λ i h. all.filled i (omega arith))
