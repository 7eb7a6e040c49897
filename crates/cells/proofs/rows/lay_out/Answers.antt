-- Cell by cell, the row is filled with bytes and marks.
-- Assumes nothing.
use Rattle.std.proofs.Common.{arith}
use Rattle.cells.proofs.Laws.{laid_out}
use Rattle.cells.proofs.rows.lay_out.Goals as goal

pub returns : goal.returns
returns c = laid_out _ _ _ _ (λ k h. c.loop-k.invariant.filled k (omega arith))
    (record { memory = c.told-memory; reads = c.told-reads; writes = c.told-writes })
    c.fits-memory
    c.fits-reads
    c.fits-writes
